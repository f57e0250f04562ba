use Rattle.std.proofs.Common.{◌≡◌, List, ℕ, refl, subst}
use Rattle.std.specs.Prelude.{IfSome}
use Rattle.std.proofs.lemmas.Slice.Eq.{slice_eq-Decides}
use Rattle.std.proofs.lemmas.Bool.Decides.{Decides-eqb}
use Rattle.sha2.specs.Sha256.{sha256}
use Rattle.mage_store.specs.declared.watch.Watch.{Watch}
use Rattle.mage_store.specs.Seals.{digest_of}
use Rattle.mage_store.proofs.SealedCalls.{read_watch, judged_whole}
use Rattle.mage_store.proofs.sealed_port.judge.Goals as goal

pub returns-then-eq : goal.returns-then-eq
returns-then-eq c =
    let watches = c.args.watches.now.items in
    let was = read_watch watches c.args.slot c.index.result.now c.index.ensures c.requires in
    let kept = c.kept-kept.result in
    let found = c.digest-found.result in
    let same = (slice_eq-Decides Decides-eqb kept found c.eq.result c.eq.ensures).0 c.if-eq.true in (
      subst (λ (w : Watch). IfSome (digest_of c.args.seals.now w.page) (λ (d : List ℕ). d ≡ sha256 c.args.bytes.now)) was
          (judged_whole (digest_of c.args.seals.now c.index.result.now.page) kept found c.args.bytes.now c.kept-kept.ensures same c.digest-found.ensures),
      refl,
    )
