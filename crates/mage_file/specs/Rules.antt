-- The rules that a field may have, as tests. Those on instructions test the facts of the one table of opcodes.
use Rattle.std.specs.Prelude.{◌≡◌, ◌≤◌, ◌<◌, ◌+◌, ◌-◌, ◌*◌, ◌^◌, ◌&&◌, ℕ, [], ◌∷◌, Bool, true, false, not, nat_lt, nat_le, ◌==◌, if◌then◌else◌}
use Rattle.std.specs.Bool.{Decides}
use Rattle.std.specs.List.{list_any}
use Rattle.std.proofs.lemmas.Bool.{leb-true, le-leb, ltb-true, lt-ltb}
use Rattle.std.proofs.Common.{refl, sym, true≢false, eqb-true, eq-eqb}
use Rattle.mage_instr.specs.declared.op.Op.{Op}
use Rattle.mage_instr.specs.declared.op.Op.TheVariants as op
use Rattle.mage_instr.specs.Limits.{most_slots, most_wires}
use Rattle.mage_instr.specs.Opcodes.{greatest_width, most_workers, ImmOk, WidthOk}
use Rattle.mage_directives.specs.Directives.{most_pages}

-- a number from `least` to `most`
abbrev pub within : (least most : ℕ) → ℕ → Bool
within least most n = nat_le least n && nat_le n most

-- the greatest number that a field may have: a field that isn't there is 0
abbrev pub most_if : (there : Bool) (most : ℕ) → ℕ
most_if there most = if there then most else 0

-- the greatest number of two bytes, which a frame, an offset or a slot may have
abbrev pub most_of_two_bytes : ℕ
most_of_two_bytes = 65535

-- the greatest page: each is below the most pages
abbrev pub greatest_page : ℕ
greatest_page = most_pages - 1

-- a power of two from 64 to 65,536
abbrev pub is_page : ℕ → Bool
is_page n = list_any (λ k. 2 ^ k == n) (6 ∷ 7 ∷ 8 ∷ 9 ∷ 10 ∷ 11 ∷ 12 ∷ 13 ∷ 14 ∷ 15 ∷ 16 ∷ [])

-- not too many slots, and they and the frames don't hold too many wires
abbrev pub is_buffer : (page frames : ℕ) → ℕ → Bool
is_buffer page frames n = nat_le n most_slots && nat_le ((frames + n) * page) most_wires

-- a test of a fact, which passes exactly where the fact holds
pub record Test (P : Type 0) : Type 0 where
  pub passes : Bool
  pub decides : Decides passes P

abbrev pub at_most : (n most : ℕ) → Test (n ≤ most)
at_most n most = record { passes = nat_le n most; decides = (leb-true n most, le-leb n most) }

abbrev pub below : (n bound : ℕ) → Test (n < bound)
below n bound = record { passes = nat_lt n bound; decides = (ltb-true n bound, lt-ltb n bound) }

abbrev pub equals : (n value : ℕ) → Test (n ≡ value)
equals n value = record { passes = n == value; decides = (eqb-true n value, eq-eqb n value) }

pub both_pass : {P Q : Type 0} (a b : Bool) → Decides a P → Decides b Q → Decides (a && b) (P × Q)
both_pass true b p q = (λ e. (p.0 refl, q.0 e), λ both. q.1 both.1)
both_pass false b p q = (λ e. absurd (true≢false (sym e)), λ both. p.1 both.0)

pub all_pass : {P Q R : Type 0} (a b c : Bool) → Decides a P → Decides b Q → Decides c R → Decides (a && b && c) (P × Q × R)
all_pass true true c p q r = (λ e. (p.0 refl, q.0 refl, r.0 e), λ all. r.1 all.2)
all_pass true false c p q r = (λ e. absurd (true≢false (sym e)), λ all. q.1 all.1)
all_pass false b c p q r = (λ e. absurd (true≢false (sym e)), λ all. p.1 all.0)

-- what the table says of the immediate
unfoldable pub imm_test : (o : Op) (width imm : ℕ) → Test (ImmOk o width imm)
imm_test op.Input width imm = at_most imm 1
imm_test op.Const width imm = record {
  passes = nat_lt imm (2 ^ width) && nat_lt imm (2 ^ 64);
  decides = both_pass (nat_lt imm (2 ^ width)) (nat_lt imm (2 ^ 64)) (below imm (2 ^ width)).decides (below imm (2 ^ 64)).decides;
}
imm_test op.Shl width imm = at_most imm greatest_width
imm_test op.Shr width imm = at_most imm greatest_width
imm_test op.Resize width imm = record {
  passes = nat_le 1 imm && nat_le imm greatest_width;
  decides = both_pass (nat_le 1 imm) (nat_le imm greatest_width) (at_most 1 imm).decides (at_most imm greatest_width).decides;
}
imm_test op.Send width imm = below imm most_workers
imm_test op.Recv width imm = below imm most_workers
imm_test op.Output width imm = equals imm 0
imm_test op.Add width imm = equals imm 0
imm_test op.Sub width imm = equals imm 0
imm_test op.Mul width imm = equals imm 0
imm_test op.And width imm = equals imm 0
imm_test op.Or width imm = equals imm 0
imm_test op.Xor width imm = equals imm 0
imm_test op.Not width imm = equals imm 0
imm_test op.Eq width imm = equals imm 0
imm_test op.Lt width imm = equals imm 0
imm_test op.Mux width imm = equals imm 0
imm_test op.Div width imm = equals imm 0
imm_test op.Rem width imm = equals imm 0
imm_test op.Count width imm = equals imm 0
imm_test op.Min width imm = equals imm 0
imm_test op.Max width imm = equals imm 0

-- what the table says of the width and the immediate
abbrev pub width_test : (o : Op) (width imm : ℕ) → Test (WidthOk o width imm)
width_test o width imm = record {
  passes = nat_le 1 width && nat_le width greatest_width && (imm_test o width imm).passes;
  decides = all_pass (nat_le 1 width) (nat_le width greatest_width) (imm_test o width imm).passes (at_most 1 width).decides (at_most width greatest_width).decides (imm_test o width imm).decides;
}

-- the immediate is as the table says, for an instruction of this width
abbrev pub is_imm : Op → (width imm : ℕ) → Bool
is_imm o width imm = (width_test o width imm).passes

-- the other end of a link is another worker of the program
unfoldable pub is_link : (workers own : ℕ) → Op → (imm : ℕ) → Bool
is_link workers own op.Send imm = nat_lt imm workers && not (imm == own)
is_link workers own op.Recv imm = nat_lt imm workers && not (imm == own)
is_link workers own op.Input imm = true
is_link workers own op.Const imm = true
is_link workers own op.Output imm = true
is_link workers own op.Add imm = true
is_link workers own op.Sub imm = true
is_link workers own op.Mul imm = true
is_link workers own op.And imm = true
is_link workers own op.Or imm = true
is_link workers own op.Xor imm = true
is_link workers own op.Not imm = true
is_link workers own op.Eq imm = true
is_link workers own op.Lt imm = true
is_link workers own op.Mux imm = true
is_link workers own op.Shl imm = true
is_link workers own op.Shr imm = true
is_link workers own op.Resize imm = true
is_link workers own op.Div imm = true
is_link workers own op.Rem imm = true
is_link workers own op.Count imm = true
is_link workers own op.Min imm = true
is_link workers own op.Max imm = true

-- what stands in the field of the immediate
abbrev pub is_immediate : (workers own : ℕ) → Op → (width : ℕ) → ℕ → Bool
is_immediate workers own o width n = is_imm o width n && is_link workers own o n

-- Const has its value in place of its immediate and of two arguments
unfoldable pub is_const : Op → Bool
is_const op.Const = true
is_const op.Input = false
is_const op.Output = false
is_const op.Add = false
is_const op.Sub = false
is_const op.Mul = false
is_const op.And = false
is_const op.Or = false
is_const op.Xor = false
is_const op.Not = false
is_const op.Eq = false
is_const op.Lt = false
is_const op.Mux = false
is_const op.Shl = false
is_const op.Shr = false
is_const op.Resize = false
is_const op.Send = false
is_const op.Recv = false
is_const op.Div = false
is_const op.Rem = false
is_const op.Count = false
is_const op.Min = false
is_const op.Max = false
