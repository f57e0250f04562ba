use Rattle.std.proofs.Common.{◌≡◌, [], IsTrue, refl, arith}
use Rattle.mage_base.specs.MemDesk.{desk_told}
use Rattle.mage_base.proofs.Pages.{hands_new}
use Rattle.mage_base.proofs.mem_desk.MemDeskDesk.store.Goals as goal
use Rattle.mage_base.proofs.mem_desk.MemDeskDesk.store.Goals.{in-Ok-lend, in-Err}

pub returns-clause-store : goal.returns-clause-store
returns-clause-store c =
    let told = desk_told c.args.self.now in
    let none : IsTrue told.steady → c.store-fails.result.now ≡ [] = λ steady. c.store-fails.ensures.none (grind arith) in
    elim c.match-lend.branch [ in-Ok-lend w ↦ rw (w.result-is, c.in-Ok.ensures) (hands_new told c.args.pages c.args.page_bytes c.store-fails.result.now refl refl none) | in-Err w ↦ rw w.result-is tt ]
