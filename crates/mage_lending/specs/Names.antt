-- The names of the workers' files.
use Rattle.std.specs.Prelude.{◌+◌, ℕ, zero, suc, List, [], ◌∷◌, codes, map, String, string_bytes}
use Rattle.std.specs.List.{concat}
use Rattle.std.specs.Fmt.{decimal}
use Rattle.std.specs.Global.{Global}

-- The name of a worker's file is what all have in common, a dot and the worker's number.
abbrev pub worker_file : (prefix : List ℕ) → (worker : ℕ) → List ℕ
worker_file prefix worker = concat (prefix ∷ codes "." ∷ decimal worker ∷ [])

-- the names of so many workers' files, from this worker on
abbrev pub worker_files : (prefix : List ℕ) → (first count : ℕ) → List (List ℕ)
worker_files prefix first zero = []
worker_files prefix first (suc count) = worker_file prefix first ∷ worker_files prefix (first + 1) count

-- the bytes of names
abbrev pub spelled : List (String Global) → List (List ℕ)
spelled names = map string_bytes names
