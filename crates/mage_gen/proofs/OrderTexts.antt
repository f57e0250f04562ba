-- Laws of the texts of an order.
use Rattle.std.proofs.Common.{◌≡◌, ℕ, ◌+◌, ◌*◌, ◌<◌, ◌≤◌, Bool, true, false, cond, [], length, refl, arith, Ok}
use Rattle.std.specs.Prelude.{IsTrue}
use Rattle.std.specs.Fmt.{decimal}
use Rattle.std.proofs.lemmas.Bool.{leb-true}
use Rattle.std.proofs.lemmas.Fmt.{length-decimal-le}
use Rattle.mage_texts.specs.InputText.{inputs_of}
use Rattle.mage_gen.specs.declared.order.GenOrder.{GenOrder}
use Rattle.mage_gen.specs.Generator.{IsOrder, numbers_from, last_from, input_lines, garbler_count, evaluator_count, has_inputs, garbler_text, evaluator_text, garbler_widths, evaluator_widths, garbler_lists, evaluator_lists}
use Rattle.mage_gen.specs.Source.{source_parts, source_text}
use Rattle.mage_gen.proofs.Numbers.{numbers_are_small, length-numbers_from, lines_are_short, total, length-concat}
use Rattle.mage_gen.proofs.ReadLines.{numbers_are_read}

pub garbler_is_read : (order : GenOrder) → IsTrue (has_inputs order) → inputs_of (garbler_text order) (garbler_widths order) ≡ Ok (garbler_lists order)
garbler_is_read order few = rw few (numbers_are_read order.number order.workers order.items)

pub evaluator_is_read : (order : GenOrder) → IsTrue (has_inputs order) → inputs_of (evaluator_text order) (evaluator_widths order) ≡ Ok (evaluator_lists order)
evaluator_is_read order few =
    rw few (numbers_are_read (last_from order.number (garbler_count order)) order.workers (order.rows * order.items))

-- lines of so many numbers, where there are any, have at most eleven bytes for each
some_lines_are_short : (b : Bool) (value count limit : ℕ) → (b ≡ true → 11 * count ≤ limit) → length (cond b (input_lines (numbers_from value count)) []) ≤ limit
some_lines_are_short false value count limit most = omega arith
some_lines_are_short true value count limit most =
    omega (arith, most refl, lines_are_short (numbers_from value count) (numbers_are_small value count), length-numbers_from value count)

pub garbler_is_short : (order : GenOrder) → length (garbler_text order) ≤ 67108864
garbler_is_short order = some_lines_are_short (has_inputs order) order.number (garbler_count order) 67108864
    (λ few. omega (arith, leb-true (garbler_count order + evaluator_count order) 2000000 few))

pub evaluator_is_short : (order : GenOrder) → length (evaluator_text order) ≤ 67108864
evaluator_is_short order = some_lines_are_short (has_inputs order) (last_from order.number (garbler_count order)) (evaluator_count order) 67108864
    (λ few. omega (arith, leb-true (garbler_count order + evaluator_count order) 2000000 few))

few_digits : (n : ℕ) → n ≤ 65536 → length (decimal n) ≤ 10
few_digits n most = length-decimal-le 10 n (omega arith) (omega (arith, most)) (omega (arith, most))

pub source_is_short : (order : GenOrder) → IsOrder order → length (source_text order) < 1048576
source_is_short order is =
    let long : length (source_text order) ≡ total (source_parts order) = length-concat (source_parts order) in
    omega (arith, long, few_digits order.workers (omega (arith, is.workers.1)), few_digits order.items is.items.1, few_digits order.rows (omega (arith, is.rows.1)))
