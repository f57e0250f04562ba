-- The numbers of a generated source's inputs, and their texts.
use Rattle.std.specs.Prelude.{ℕ, zero, suc, ◌+◌, ◌*◌, ◌%◌, ◌^◌, ◌<◌, ◌≤◌, List, [], ◌∷◌, ◌++◌, Bool, nat_le, replicate, if◌then◌else◌}
use Rattle.std.specs.List.{flat_map}
use Rattle.std.specs.Fmt.{decimal}
use Rattle.mage_gen.specs.declared.order.GenOrder.{GenOrder}

-- the least and the greatest of each number of an order
pub record IsOrder (order : GenOrder) : Type 0 where
  pub items : (1 ≤ order.items) × (order.items ≤ 65536)
  pub rows : (1 ≤ order.rows) × (order.rows ≤ 1024)
  pub workers : (1 ≤ order.workers) × (order.workers ≤ 16)
  pub number : order.number < 2 ^ 32

-- the number after this one
abbrev pub next_number : ℕ → ℕ
next_number value = (1664525 * value + 1013904223) % 2 ^ 32

-- the numbers after this one, so many
abbrev pub numbers_from : ℕ → ℕ → List ℕ
numbers_from value zero = []
numbers_from value (suc count) = next_number value ∷ numbers_from (next_number value) count

-- the last of them, or this one where there are none
abbrev pub last_from : ℕ → ℕ → ℕ
last_from value zero = value
last_from value (suc count) = last_from (next_number value) count

-- so many numbers for each worker, worker 0's first
abbrev pub lists_from : ℕ → (workers each : ℕ) → List (List ℕ)
lists_from value zero each = []
lists_from value (suc workers) each =
    numbers_from value each ∷ lists_from (last_from value each) workers each

-- each number in decimal digits with a line feed
abbrev pub input_lines : List ℕ → List ℕ
input_lines numbers = flat_map (λ n. decimal n ++ 10 ∷ []) numbers

-- how many values the garbler has, and how many the evaluator
abbrev pub garbler_count : GenOrder → ℕ
garbler_count order = order.workers * order.items

abbrev pub evaluator_count : GenOrder → ℕ
evaluator_count order = order.workers * (order.rows * order.items)

-- Whether all values together, which are workers * items * (rows + 1), are at most as many as a program has
-- instructions. With more of them the source is too long to unroll.
abbrev pub has_inputs : GenOrder → Bool
has_inputs order = nat_le (garbler_count order + evaluator_count order) 2000000

-- the garbler's values are the first numbers after the order's
abbrev pub garbler_numbers : GenOrder → List ℕ
garbler_numbers order = numbers_from order.number (garbler_count order)

-- the evaluator's are those that come next
abbrev pub evaluator_numbers : GenOrder → List ℕ
evaluator_numbers order =
    numbers_from (last_from order.number (garbler_count order)) (evaluator_count order)

-- the input texts, which are empty where there are too many values
abbrev pub garbler_text : GenOrder → List ℕ
garbler_text order = if has_inputs order then input_lines (garbler_numbers order) else []

abbrev pub evaluator_text : GenOrder → List ℕ
evaluator_text order = if has_inputs order then input_lines (evaluator_numbers order) else []

-- the widths of each worker's values: the source has the garbler's numbers in one array of the items, and the
-- evaluator's in one for each row
abbrev pub garbler_widths : GenOrder → List (List ℕ)
garbler_widths order = replicate order.workers (replicate order.items 32)

abbrev pub evaluator_widths : GenOrder → List (List ℕ)
evaluator_widths order = replicate order.workers (replicate (order.rows * order.items) 32)

-- each worker's values
abbrev pub garbler_lists : GenOrder → List (List ℕ)
garbler_lists order = lists_from order.number order.workers order.items

abbrev pub evaluator_lists : GenOrder → List (List ℕ)
evaluator_lists order =
    lists_from (last_from order.number (garbler_count order)) order.workers (order.rows * order.items)
