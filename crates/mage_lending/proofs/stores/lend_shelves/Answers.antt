use Rattle.std.proofs.Common.{Vec, ap, ◌∙◌, arith}
use Rattle.std.specs.Global.{Global}
use Rattle.std.proofs.lemmas.Result.{err_from_is_err_and}
use Rattle.mage_base.specs.Desk.{DeskTold}
use Rattle.mage_lending.proofs.Giving.{lent_none, lent_next, lent_some, fails_next, ends_so, counted_so, no_fault_either}
use Rattle.mage_lending.proofs.stores.lend_shelves.Goals as goal

pub loop-worker-init : goal.loop-worker-init
loop-worker-init g c = record {
  so_far = lent_none g.D.Pages.Store.tells (g.D.Desk.tells c.args.desk.now) c.args.orders.now c.args.stores.now.items c.requires.none;
  room = c.requires.room;
}

pub loop-worker-preserved : goal.loop-worker-preserved
loop-worker-preserved g c =
    let l = c.loop-worker in
    let room = c.push_reserved.ensures.capacity in
    record {
      so_far = lent_next g.D.Pages.Store.tells (g.D.Desk.tells c.args.desk.now) (g.D.Desk.tells l.desk) (g.D.Desk.tells c.lend_shelf.new.desk) c.args.orders.now l.stores.items
          c.push_reserved.new.self.items l.worker (record { pages = 0; page_bytes = 0 }) c.in_ok-shelf.shelf c.loop-worker-test.true l.invariant.so_far c.in_ok-shelf.ensures.store
          c.in_ok-shelf.ensures.rest c.push_reserved.ensures.items;
      room = omega (arith, l.invariant.room, room);
    }

pub push_reserved-requires : goal.push_reserved-requires
push_reserved-requires g c = omega (arith, c.loop-worker.invariant.so_far.count, c.loop-worker.invariant.room, c.loop-worker.stores.ok.0, c.loop-worker-test.true)

pub returns-in_err-shelf-clause-lent : goal.returns-in_err-shelf-clause-lent
returns-in_err-shelf-clause-lent g c =
    let l = c.loop-worker in
    (lent_some g.D.Pages.Store.tells (g.D.Desk.tells c.args.desk.now) (g.D.Desk.tells l.desk) c.args.orders.now l.stores.items l.worker l.invariant.so_far).lent

pub returns-in_err-shelf-clause-rest : goal.returns-in_err-shelf-clause-rest
returns-in_err-shelf-clause-rest g c =
    let l = c.loop-worker in
    let some = lent_some g.D.Pages.Store.tells (g.D.Desk.tells c.args.desk.now) (g.D.Desk.tells l.desk) c.args.orders.now l.stores.items l.worker l.invariant.so_far in
    fails_next (g.D.Desk.tells c.args.desk.now) (g.D.Desk.tells l.desk) (g.D.Desk.tells c.lend_shelf.new.desk) _ some.rest c.in_err-shelf.ensures.rest

pub returns-in_err-shelf-clause-cause : goal.returns-in_err-shelf-clause-cause
returns-in_err-shelf-clause-cause g c =
    let p = err_from_is_err_and c.from_residual.result c.from_residual.ensures.1 in
    let same = ap (λ (d : DeskTold). d.faults) c.loop-worker.invariant.so_far.rest in
    rw (p.1, p.2) (counted_so (Vec g.row.D-Pages.Denot Global) (Unit {0}) (g.D.Desk.tells c.args.desk.now).faults _ _ c.in_err-shelf.field-0.0 same c.in_err-shelf.ensures.cause)

pub returns-in_err-shelf-clause-steady : goal.returns-in_err-shelf-clause-steady
returns-in_err-shelf-clause-steady g c =
    let p = err_from_is_err_and c.from_residual.result c.from_residual.ensures.1 in
    let same = ap (λ (d : DeskTold). d.steady) c.loop-worker.invariant.so_far.rest in
    rw (p.1, p.2) (λ calm. no_fault_either (Vec g.row.D-Pages.Denot Global) (Unit {0}) c.in_err-shelf.field-0.0 (c.in_err-shelf.ensures.steady (same ∙ calm)))

pub returns-clause-lent : goal.returns-clause-lent
returns-clause-lent g c =
    let l = c.loop-worker in
    (lent_some g.D.Pages.Store.tells (g.D.Desk.tells c.args.desk.now) (g.D.Desk.tells l.desk) c.args.orders.now l.stores.items l.worker l.invariant.so_far).lent

pub returns-clause-rest : goal.returns-clause-rest
returns-clause-rest g c =
    let l = c.loop-worker in
    let some = lent_some g.D.Pages.Store.tells (g.D.Desk.tells c.args.desk.now) (g.D.Desk.tells l.desk) c.args.orders.now l.stores.items l.worker l.invariant.so_far in
    ends_so (g.D.Desk.tells c.args.desk.now) (g.D.Desk.tells l.desk) _ some.rest

pub returns-clause-cause : goal.returns-clause-cause
returns-clause-cause g c = ap (λ (d : DeskTold). d.faults) c.loop-worker.invariant.so_far.rest
