-- Garbler and evaluator keep active labels, whatever calls are made of them.
use Rattle.std.proofs.Common.{◌≡◌, ℕ, ◌*◌, List, [], ◌∷◌, ◌++◌, Bool, not, ◌&&◌, length, drop, sym, ap, ap₂, subst, ◌∙◌}
use Rattle.mage_bits.specs.Bits.{bits, number}
use Rattle.mage_instr.specs.declared.party.Party.{Party}
use Rattle.mage_instr.specs.declared.party.Party.TheVariants as party
use Rattle.mage_label.specs.declared.labels.Label.{Label}
use Rattle.mage_label.specs.Labels.{IsWhole, blank, offset_of, xor}
use Rattle.mage_label.proofs.LabelLemmas.{IsWhole-offset_of}
use Rattle.mage_halfgates.specs.HalfGates.{Tables, tables_of, and_label, and_zero, constant_zero}
use Rattle.mage_halfgates.proofs.GateLemmas.{IsActive-and, IsActive-constant, IsActive-not, IsActive-xor, IsOffset-offset_of}
use Rattle.mage_driver.specs.Calls.{Call, And, Input, Output, call_of}
use Rattle.mage_relations.specs.Each.{Each}
use Rattle.mage_relations.proofs.Keeping.{KeepsCalls}
use Rattle.mage_streams.specs.Numbers.{number_after, next_value}
use Rattle.mage_streams.specs.Garbling.{Garbler, garbling, zero_labels, inputs_of, after_input, after_and, next_and, next_tables, said_at}
use Rattle.mage_streams.specs.Evaluating.{Evaluator, evaluating, tables_read, taken_labels, after_taking, label_of_and, decoded_bits}
use Rattle.mage_streams.specs.Reckoning.{Reckoner, reckoning, bits_taken, after_value}
use Rattle.mage_streams.specs.Streams.{dealt_at}
use Rattle.mage_streams.proofs.Reading.{Active, IsWhole-generator, IsWhole-evaluator, tables_read-said, drop-tables, reads_input, takes_input, reads_output}

-- A worker in plain, its garbler and its evaluator, where the garbler still makes these calls: the evaluator has what will be said
-- and dealt for them left.
pub record Meets (seed : List ℕ) (r : Reckoner) (g : Garbler) (e : Evaluator) (rest : List (Call Garbler Label)) : Type 0 where
  pub of_seed : g.seed ≡ seed
  pub workers : e.worker ≡ g.worker
  pub gates : e.gates ≡ g.gates
  pub values : r.garbler ≡ g.values
  pub left : e.left ≡ said_at rest
  pub labels : e.labels ≡ dealt_at rest r.evaluator
  pub outputs : e.outputs ≡ r.outputs

module _ (seed : List ℕ) where
  constants : (r : Reckoner) (g : Garbler) (e : Evaluator) (rest : List (Call Garbler Label)) (bit : Bool) → Meets seed r g e rest →
      Active seed bit (constant_zero (offset_of g.seed) bit) blank
  constants r g e rest bit m = rw m.of_seed (IsActive-constant (offset_of seed) bit (IsOffset-offset_of seed))

  nots : (r : Reckoner) (g : Garbler) (e : Evaluator) (rest : List (Call Garbler Label)) (u : Bool) (a x : Label) → Meets seed r g e rest → Active seed u a x →
      Active seed (not u) (xor a (offset_of g.seed)) x
  nots r g e rest u a x m at = rw m.of_seed (IsActive-not (offset_of seed) a x u (IsOffset-offset_of seed) at)

  ands : (r : Reckoner) (g : Garbler) (e : Evaluator) (rest : List (Call Garbler Label)) (u v : Bool) (a b x y : Label) → Meets seed r g e (call_of garbling g (And a b) ∷ rest) →
      Active seed u a x → Active seed v b y →
      Meets seed r (after_and g) ((evaluating.and e x y).0) rest × Active seed (u && v) (next_and g a b) (label_of_and e x y)
  ands r g e rest u v a b x y m at at' =
      let tables : Tables = next_tables g a b in
      let whole : IsWhole tables.generator = IsWhole-generator (offset_of g.seed) g.worker g.gates a b (IsWhole-offset_of g.seed) in
      let whole' : IsWhole tables.evaluator = IsWhole-evaluator (offset_of g.seed) g.worker g.gates a b at.whole in
      let read : tables_read e.left ≡ tables = ap tables_read m.left ∙ tables_read-said tables (said_at rest) whole whole' in
      let same : label_of_and e x y ≡ and_label g.worker g.gates tables x y =
      ap (λ (t : Tables). and_label e.worker e.gates t x y) read ∙ ap₂ (λ (w n : ℕ). and_label w n tables x y) m.workers m.gates in (
        record {
          of_seed = m.of_seed;
          workers = m.workers;
          gates = ap (λ (n : ℕ). number_after n 1) m.gates;
          values = m.values;
          left = ap (λ (xs : List ℕ). drop 32 xs) m.left ∙ drop-tables tables (said_at rest) whole whole';
          labels = m.labels;
          outputs = m.outputs;
        },
        subst (λ (l : Label). Active seed (u && v) (next_and g a b) l) (sym same)
            (subst (λ (s : List ℕ). Active s (u && v) (and_zero (offset_of g.seed) g.worker g.gates a b) (and_label g.worker g.gates (tables_of (offset_of g.seed) g.worker g.gates a b) x y)) m.of_seed
            (IsActive-and (offset_of g.seed) a b x y u v g.worker g.gates (IsOffset-offset_of g.seed) (subst (λ (s : List ℕ). Active s u a x) (sym m.of_seed) at) (subst (λ (s : List ℕ). Active s v b y) (sym m.of_seed) at'))),
      )

  inputs : (r : Reckoner) (g : Garbler) (e : Evaluator) (rest : List (Call Garbler Label)) (whose : Party) (count : ℕ) → Meets seed r g e (call_of garbling g (Input whose count) ∷ rest) →
      Meets seed (after_value r whose) (after_input g whose count) (after_taking e whose count) rest
      × Each (Active seed) (bits_taken r whose count) (inputs_of g count) (taken_labels e whose count)
  inputs r g e rest party.Garbler count m =
      let value : ℕ = next_value r.garbler in
      let read = reads_input seed g.worker g.wires count value (said_at rest) in
      let said = m.left ∙ ap₂ (λ (s : List ℕ) (n : List ℕ). said_at (call_of garbling (record g { seed = s; values = n }) (Input party.Garbler count) ∷ rest)) m.of_seed (sym m.values) in (
        record {
          of_seed = m.of_seed;
          workers = m.workers;
          gates = m.gates;
          values = ap (λ (xs : List ℕ). drop 1 xs) m.values;
          left = ap (λ (xs : List ℕ). drop (16 * count) xs) said ∙ read.left;
          labels = m.labels;
          outputs = m.outputs;
        },
        subst (λ (s : List ℕ). Each (Active seed) (bits value count) (zero_labels s g.worker g.wires count) (taken_labels e party.Garbler count)) (sym m.of_seed)
            (subst (λ (xs : List ℕ). Each (Active seed) (bits value count) (zero_labels seed g.worker g.wires count) (taken_labels (record e { left = xs }) party.Garbler count)) (sym said) read.wires),
      )
  inputs r g e rest party.Evaluator count m =
      let value : ℕ = next_value r.evaluator in
      let took = takes_input seed g.worker g.wires count value (dealt_at rest (drop 1 r.evaluator)) in
      let dealt = m.labels ∙ ap (λ (s : List ℕ). dealt_at (call_of garbling (record g { seed = s }) (Input party.Evaluator count) ∷ rest) r.evaluator) m.of_seed in (
        record {
          of_seed = m.of_seed;
          workers = m.workers;
          gates = m.gates;
          values = m.values;
          left = m.left;
          labels = ap (λ (xs : List Label). drop count xs) dealt ∙ took.left;
          outputs = m.outputs;
        },
        subst (λ (s : List ℕ). Each (Active seed) (bits value count) (zero_labels s g.worker g.wires count) (taken_labels e party.Evaluator count)) (sym m.of_seed)
            (subst (λ (xs : List Label). Each (Active seed) (bits value count) (zero_labels seed g.worker g.wires count) (taken_labels (record e { labels = xs }) party.Evaluator count)) (sym dealt) took.wires),
      )

  outputs : (r : Reckoner) (g : Garbler) (e : Evaluator) (rest : List (Call Garbler Label)) (us : List Bool) (zs xs : List Label) → Meets seed r g e (call_of garbling g (Output zs) ∷ rest) →
      Each (Active seed) us zs xs → Meets seed (reckoning.output r us) g (evaluating.output e xs) rest
  outputs r g e rest us zs xs m each =
      let read = reads_output seed us zs xs (said_at rest) each in
      record {
        of_seed = m.of_seed;
        workers = m.workers;
        gates = m.gates;
        values = m.values;
        left = ap (λ (ys : List ℕ). drop (length xs) ys) m.left ∙ read.left;
        labels = m.labels;
        outputs = ap₂ (λ (os : List ℕ) (bs : List Bool). os ++ number bs ∷ []) m.outputs (ap (λ (ys : List ℕ). decoded_bits xs ys) m.left ∙ read.bits);
      }

  pub halves_keep : KeepsCalls reckoning garbling evaluating (Meets seed) (Active seed)
  halves_keep = record {
    constant = λ r g e rest bit m. constants r g e rest bit m;
    xor = λ u v a b x y at at'. IsActive-xor (offset_of seed) a b x y u v (IsOffset-offset_of seed) at at';
    not = λ r g e rest u a x m at. nots r g e rest u a x m at;
    and = λ r g e rest u v a b x y m at at'. ands r g e rest u v a b x y m at at';
    input = λ r g e rest whose count m. inputs r g e rest whose count m;
    output = λ r g e rest us zs xs m each. outputs r g e rest us zs xs m each;
  }
