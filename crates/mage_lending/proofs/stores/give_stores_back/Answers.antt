use Rattle.std.proofs.Common.{List, Vec, length, sym, ap, ◌∙◌, arith}
use Rattle.std.specs.Global.{Global}
use Rattle.mage_lending.proofs.Giving.{giving_begins, one_there, lent_there, room_there, given_next, all_given}
use Rattle.mage_lending.proofs.stores.give_stores_back.Goals as goal

pub loop-shelf-init : goal.loop-shelf-init
loop-shelf-init g c =
    let rest = c.into_iter-shelf-iterator.ensures.into_iter_gives in
    record {
      so_far = giving_begins g.D.Pages.Store.tells (g.D.Desk.tells c.args.desk.now) c.args.stores.items _ rest.0 c.requires.lent c.requires.one c.requires.few;
      long = rest.1 ∙ c.args.stores.ok.0 ∙ ap (λ (l : List (Vec g.row.D-Pages.Denot Global)). length l) (sym rest.0);
    }

pub give_shelf-requires-clause-one : goal.give_shelf-requires-clause-one
give_shelf-requires-clause-one g c κs within =
    let l = c.loop-shelf in
    one_there g.D.Pages.Store.tells (g.D.Desk.tells l.desk) _ l.worker _ _ c.in-Some.shelf l.invariant.so_far c.in-Some.ensures.steps.0

pub give_shelf-requires-clause-lent : goal.give_shelf-requires-clause-lent
give_shelf-requires-clause-lent g c κs within =
    let l = c.loop-shelf in
    lent_there g.D.Pages.Store.tells (g.D.Desk.tells l.desk) _ l.worker _ _ c.in-Some.shelf l.invariant.so_far c.in-Some.ensures.steps.0

pub overflow_add-worker : goal.overflow_add-worker
overflow_add-worker g c =
    let l = c.loop-shelf in
    let room = room_there g.D.Pages.Store.tells (g.D.Desk.tells l.desk) _ l.worker _ _ c.in-Some.shelf l.invariant.so_far c.in-Some.ensures.steps.0 in
    omega (arith, room)

pub loop-shelf-preserved : goal.loop-shelf-preserved
loop-shelf-preserved g c =
    let l = c.loop-shelf in
    let next = c.in-Some.ensures.steps in
    let longer = ap (λ (l : List (Vec g.row.D-Pages.Denot Global)). length l) next.0 in
    record {
      so_far = given_next g.D.Pages.Store.tells (g.D.Desk.tells l.desk) _ l.worker _ _ c.in-Some.shelf l.invariant.so_far next.0 (g.D.Desk.tells c.give_shelf.new.desk) c.give_shelf.ensures;
      long = omega (arith, longer, next.1, l.invariant.long);
    }

pub returns : goal.returns
returns g c = λ earlier is.
    let l = c.loop-shelf in
    let none = c.in-None.ensures.steps in
    all_given g.D.Pages.Store.tells (g.D.Desk.tells c.args.desk.now) (g.D.Desk.tells l.desk) l.worker c.args.stores.items _ earlier c.requires.one l.invariant.so_far
    (omega (arith, none.0, l.invariant.long)) is
