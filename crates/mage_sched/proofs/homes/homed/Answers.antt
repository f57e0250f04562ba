use Rattle.std.proofs.Common.{◌+◌, ◌++◌, List, get_or, drop, length, max, sym, subst, ◌∙◌, append-nil}
use Rattle.std.proofs.lemmas.List.{at_drop_more, at_drop_all}
use Rattle.mage_instr.specs.declared.directive.Directive.{Directive}
use Rattle.mage_instr.specs.declared.directive.Directive.TheVariants as directive
use Rattle.mage_sched.specs.Homes.{store_after, homed_from, homed_of}
use Rattle.mage_sched.specs.Views.{Keeps}
use Rattle.mage_sched.proofs.Keeping.{count_more, count_end, renamed_more}
use Rattle.mage_sched.proofs.Planned.{homed_if}
use Rattle.mage_sched.proofs.homes.homed.Goals as goal

pub loop-k-preserved : goal.loop-k-preserved
loop-k-preserved c =
    let kept = c.loop-k.invariant in
    let store = kept.0 in
    let list = c.args.directives.now in
    let k = c.loop-k.k in
    let first = directive.Fresh 0 0 in
    let one = get_or list k first in
    let later = drop (k + 1) list in
    let whole = homed_of list in
    let split = at_drop_more (λ (xs : List Directive). xs) list k first c.loop-k-test.true in
    let P : List Directive → Type 0 = λ xs. Keeps c.loop-k.homes store xs in
    let keeps = subst P split kept.1 in (
      store_after one later store,
      c.in_ok-rename.ensures.keeps store later keeps,
      renamed_more one later store c.loop-k.list.items c.push.new.self.items c.in_ok-rename.field-0 whole.directives c.in_ok-push.ensures.items
          (c.in_ok-rename.ensures.one store later keeps)
          (sym (at_drop_more (λ (xs : List Directive). c.loop-k.list.items ++ (homed_from store xs).directives) list k first c.loop-k-test.true) ∙ kept.2),
      count_more one later store whole.count
          (sym (at_drop_more (λ (xs : List Directive). max (length store.holders) (homed_from store xs).count) list k first c.loop-k-test.true) ∙ kept.3),
    )

pub returns-clause-list : goal.returns-clause-list
returns-clause-list c =
    let kept = c.loop-k.invariant in
    let list = c.args.directives.now in
    sym (append-nil c.loop-k.list.items)
    ∙ sym (at_drop_all (λ (xs : List Directive). c.loop-k.list.items ++ (homed_from kept.0 xs).directives) list c.loop-k.k c.loop-k-test.false) ∙ kept.2

pub returns-clause-count : goal.returns-clause-count
returns-clause-count c =
    let kept = c.loop-k.invariant in
    let list = c.args.directives.now in
    let whole = homed_of list in
    kept.1.pages.count ∙ count_end kept.0 whole.count
    (sym (at_drop_all (λ (xs : List Directive). max (length kept.0.holders) (homed_from kept.0 xs).count) list c.loop-k.k c.loop-k-test.false) ∙ kept.3)

pub returns-clause-kept : goal.returns-clause-kept
returns-clause-kept c = λ buffer turns.
    homed_if buffer c.args.directives.now c.loop-k.list.items c.loop-k.homes.count (returns-clause-list c) (returns-clause-count c) turns
