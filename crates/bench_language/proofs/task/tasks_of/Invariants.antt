-- The tasks so far are those of the words so far.
use Rattle.std.proofs.Common.{◌≡◌, map, take, Some}
use Rattle.bench_language.specs.Tasks.{named_tasks}
use Rattle.bench_language.proofs.task.tasks_of.Given as goal

abbrev pub invariant-loop-word : goal.invariant-loop-word
invariant-loop-word l = map Some l.tasks.items ≡ named_tasks (take l.word-index l.fn.words)
