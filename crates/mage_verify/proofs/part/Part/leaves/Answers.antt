use Rattle.std.proofs.Common.{◌≡◌, ◌<◌, true, length, ap, sym, subst, ◌∙◌, arith}
use Rattle.std.specs.List.{slice_get}
use Rattle.std.proofs.lemmas.Grind.{common_steps}
use Rattle.mage_verify.specs.Leaving.{is_issue_out, leaves_at}
use Rattle.mage_verify.specs.Parts.{WorkerPart}
use Rattle.mage_verify.proofs.Frames.{answer_within, answer_is}
use Rattle.mage_verify.proofs.part.Part.leaves.Goals as goal

pub index-requires : goal.index-requires
index-requires c =
    let issues : is_issue_out (slice_get c.self.inside.directives c.args.directive) ≡ true =
    subst (λ (p : WorkerPart). is_issue_out (slice_get p.directives c.args.directive) ≡ true) (sym c.self.view_is) c.requires in
    let within : c.args.directive < length c.self.inside.leaves.items = answer_within c.self.inside.directives c.self.inside.leaves.items c.args.directive c.self.invariant.1 issues in
    grind (arith, common_steps, within)

pub returns : goal.returns
returns c =
    let issues : is_issue_out (slice_get c.self.inside.directives c.args.directive) ≡ true =
    subst (λ (p : WorkerPart). is_issue_out (slice_get p.directives c.args.directive) ≡ true) (sym c.self.view_is) c.requires in
    c.index.ensures ∙ answer_is c.self.inside.directives c.self.inside.leaves.items c.args.directive c.index.result.now c.self.invariant.1 issues
    ∙ ap (λ (p : WorkerPart). leaves_at p.directives c.args.directive) c.self.view_is
