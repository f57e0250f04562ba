use Rattle.std.proofs.Common.{◌≡◌, ◌+◌, ◌++◌, ◌∷◌, [], cond, eqb, length, slice_index, take, drop, get_or, arith, ap, ◌∙◌}
use Rattle.std.specs.List.{list_any}
use Rattle.std.proofs.lemmas.List.{take_at, length_push}
use Rattle.std.proofs.lemmas.Option.{slice_get-get_or}
use Rattle.mage_place.specs.Live.{args_of}
use Rattle.mage_place.proofs.SoundFacts.{IsLastUse-more, arg_below, no_instr}
use Rattle.mage_place.proofs.last.last_uses.Goals as goal

pub loop-t-preserved : goal.loop-t-preserved
loop-t-preserved c =
    let t = c.loop-t.t in let instrs = c.args.instrs.now in let old = c.loop-t.last.items in let new = c.note.new.last in
    let pushed : c.push.new.self.items ≡ old ++ t ∷ [] = c.in_ok-push.ensures.items in
    let count : length old ≡ t = c.loop-t.invariant.count in
    let size : length c.push.new.self.items ≡ t + 1 = rw pushed (length_push old t ∙ ap (λ n. n + 1) count) in
    let handed : c.deref_mut.result.now ≡ c.push.new.self.items = c.deref_mut.ensures.value in
    let same : length new ≡ t + 1 = c.note.ensures.count ∙ ap length handed ∙ size in
    let kept : length new ≡ c.push.new.self.len = omega (arith, c.push.new.self.ok.0) in
    let back : take c.push.new.self.len (new ++ drop (length new) c.push.new.self.items) ≡ new = take_at new (drop (length new) c.push.new.self.items) c.push.new.self.len kept in
    let i = get_or instrs t no_instr in
    let is = slice_get-get_or instrs t no_instr (omega arith) in
    rw back (record {
      count = same;
      last = IsLastUse-more instrs old new t i is (λ v h. (arg_below instrs t v i c.requires is h).0) count c.loop-t.invariant.last
          (λ v. c.note.ensures.values v ∙ ap (λ xs. cond (list_any (eqb v) (args_of i)) t (slice_index xs v)) (handed ∙ pushed));
    })
