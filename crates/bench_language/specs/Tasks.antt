-- What the words ask for.
use Rattle.std.specs.Prelude.{ℕ, List, map, Option, Some, None, String, codes, if◌then◌else◌}
use Rattle.std.specs.String.{string_bytes}
use Rattle.std.specs.Str.{bytes_eq}
use Rattle.std.specs.declared.alloc.Global.{Global}
use Rattle.bench_language.specs.declared.task.Task.{Task}
use Rattle.bench_language.specs.declared.task.Task.TheVariants as tasks

-- the task that a word names
unfoldable pub task_of : List ℕ → Option Task
task_of word =
    if bytes_eq word (codes "print") then Some tasks.Print
    else if bytes_eq word (codes "unroll") then Some tasks.Unroll
    else None

-- what each word names
abbrev pub named_tasks : List (String Global) → List (Option Task)
named_tasks words = map (λ word. task_of (string_bytes word)) words
