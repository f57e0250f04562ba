use Rattle.std.proofs.Common.{◌≡◌, None, sym, ap, is_some, refl}
use Rattle.mage_store.specs.Seals.{digest_of}
use Rattle.mage_store.proofs.SealLemmas.{digest_updated, no_digest}
use Rattle.mage_store.proofs.seals.Seals.keep.Goals as goal

pub returns : goal.returns
returns c =
    let there = sym (ap is_some c.in-Some.ensures.value) in
    rw (← c.self.view_is) (digest_updated c.args.page c.self.inside.digests (c.get_mut.follows.lender c.args.digest) c.args.digest ((c.get_mut.follows.holds c.args.digest).3 there))

pub returns-in_default : goal.returns-in_default
returns-in_default c =
    let none : digest_of c.args.self.now c.args.page ≡ None = rw (← c.self.view_is, ← c.in_default.ensures.value) refl in
    absurd (no_digest (digest_of c.args.self.now c.args.page) none c.requires)
