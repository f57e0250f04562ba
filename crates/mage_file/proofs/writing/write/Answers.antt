use Rattle.std.proofs.Common.{[], ◌++◌, ◌∙◌, ◌≡◌, sym, ap, List, ℕ, length}
use Rattle.std.proofs.lemmas.List.{append-nil}
use Rattle.mage_file.specs.declared.version.Version.TheVariants as version
use Rattle.mage_file.specs.Formats.{chain, done, spell_all}
use Rattle.mage_file.specs.Grammar.{head, limits, section, sections_of, file}
use Rattle.mage_file.proofs.Adding.{sections_same}
use Rattle.mage_file.proofs.writing.write.Goals as goal

pub returns : goal.returns
unfolding chain done file
returns c =
    let plan = c.args.plan.now in
    let behind : List ℕ = spell_all (λ _. section version.Second 0 0) 0 (sections_of plan.stores plan.workers) [] in
    let last : c.put_sections.new.out.items ++ [] ≡ c.put_limits.new.out.items ++ behind = rw (c.as_slice.ensures, c.as_slice-2.ensures) at (c.in_ok-put_sections.ensures []) in
    let first : c.put_head.new.out.items ++ limits.spell plan.limits behind ≡ (head version.Second).spell (length plan.workers) (limits.spell plan.limits behind) =
    rw (c.len.ensures, c.new-out.ensures.items) at (c.in_ok-put_head.ensures (limits.spell plan.limits behind)) in
    sym (append-nil c.put_sections.new.out.items) ∙ last ∙ c.in_ok-put_limits.ensures behind ∙ first
    ∙ ap (λ (t : List ℕ). (head version.Second).spell (length plan.workers) (limits.spell plan.limits t)) (sections_same version.Second (length plan.workers) 0 (sections_of plan.stores plan.workers) [])
