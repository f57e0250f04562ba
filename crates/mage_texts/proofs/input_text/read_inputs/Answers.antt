use Rattle.std.proofs.Common.{◌≡◌, ◌++◌, ◌∷◌, [], Ok, length, take, drop, get_or, arith, ◌<◌, ◌+◌, ap, ◌∙◌}
use Rattle.std.specs.List.{concat}
use Rattle.std.proofs.lemmas.Grind.{common_steps}
use Rattle.std.proofs.lemmas.Bool.Decides.{nat_tests}
use Rattle.std.proofs.lemmas.List.{take_all, take_more, nil_from_length}
use Rattle.std.proofs.lemmas.Result.{err_from_is_err_and}
use Rattle.mage_texts.specs.Lists.{lists_of}
use Rattle.mage_texts.specs.InputText.{inputs_of}
use Rattle.mage_texts.proofs.Reading.{IsFront-then, IsReadOf-fault, inputs_of-all, inputs_of-too_many, concat-at_place, concat-push, lengths-push}
use Rattle.mage_texts.proofs.Widths.{FitWidths-from_inputs}
use Rattle.mage_texts.proofs.input_text.read_inputs.Goals as goal
use Rattle.mage_texts.proofs.input_text.read_inputs.Goals.{Then-is_empty}

pub loop-own-preserved : goal.loop-own-preserved
loop-own-preserved c =
    let l = c.loop-own in
    let widths = c.args.widths.now in
    let own = get_or widths l.own-index c.own-item.result in
    let inside : l.own-index < length widths = omega arith in
    let is : c.as_slice.result.now ≡ own.items = c.as_slice.ensures.value ∙ ap (λ v. v.items) c.own-item.is in
    let worker = c.in_ok-worker.worker in
    let pushed : c.push.new.self.items ≡ l.numbers.items ++ worker ∷ [] = grind (arith, common_steps) in
    let more = take_more widths l.own-index c.own-item.result inside in
    let after = c.in_ok-worker.after in
    let front = rw is at c.in_ok-worker.ensures.numbers in
    let count = rw is at c.in_ok-worker.ensures.count in
    rw (pushed, more) (
      c.in_ok-worker.ensures.countable,
      rw (concat-push (take l.own-index widths) own, concat-push l.numbers.items worker) (IsFront-then 1 c.args.text.now (concat (lists_of (take l.own-index widths))) (concat (lists_of l.numbers.items)) l.left.number l.left.rest.now own.items worker.items after.number after.rest.now l.invariant.1 front),
      rw (lengths-push (take l.own-index widths) own, lengths-push l.numbers.items worker, l.invariant.2, count),
    )

-- all values are read and no line is left
all : (c : Then-is_empty) → inputs_of c.args.text.now (lists_of c.args.widths.now) ≡ Ok (lists_of c.loop-own.numbers.items)
all c =
    let l = c.loop-own in
    let widths = c.args.widths.now in
    let whole = take_all l.own-index widths c.loop-own-test.false in
    let none : l.left.rest.now ≡ [] = nil_from_length l.left.rest.now (grind (arith, nat_tests)) in
    let front = rw (whole, none) at l.invariant.1 in
    inputs_of-all c.args.text.now (lists_of widths) (lists_of l.numbers.items) l.left.number front (rw whole at l.invariant.2)

pub returns-then-is_empty-clause-numbers : goal.returns-then-is_empty-clause-numbers
returns-then-is_empty-clause-numbers c = all c

pub returns-then-is_empty-clause-fit : goal.returns-then-is_empty-clause-fit
returns-then-is_empty-clause-fit c = FitWidths-from_inputs c.args.text.now (lists_of c.args.widths.now) (lists_of c.loop-own.numbers.items) (all c)

pub returns-else-is_empty-clause-numbers : goal.returns-else-is_empty-clause-numbers
returns-else-is_empty-clause-numbers c =
    let l = c.loop-own in
    let whole = take_all l.own-index c.args.widths.now c.loop-own-test.false in
    let some : 0 < length l.left.rest.now = grind (arith, nat_tests) in
    inputs_of-too_many c.args.text.now (lists_of c.args.widths.now) (concat (lists_of l.numbers.items)) l.left.number l.left.rest.now (rw whole at l.invariant.1) some

pub returns-in_err-worker-clause-numbers : goal.returns-in_err-worker-clause-numbers
returns-in_err-worker-clause-numbers c =
    let p = err_from_is_err_and c.from_residual.result c.from_residual.ensures.1 in
    let l = c.loop-own in
    let widths = c.args.widths.now in
    let own = get_or widths l.own-index c.own-item.result in
    let inside : l.own-index < length widths = omega arith in
    let is : c.as_slice.result.now ≡ own.items = c.as_slice.ensures.value ∙ ap (λ v. v.items) c.own-item.is in
    let fault = rw is at c.in_err-worker.ensures.fault in
    rw (p.1, p.2) (IsReadOf-fault c.args.text.now (lists_of widths) (concat (lists_of (take l.own-index widths))) own.items (concat (lists_of (drop (l.own-index + 1) widths))) (concat (lists_of l.numbers.items)) l.left.number l.left.rest.now _ (concat-at_place widths l.own-index c.own-item.result inside) l.invariant.1 fault)
