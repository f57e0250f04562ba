-- Stores that suit the parts of a program on pages of 64 wires of so many bytes each.
use Rattle.std.proofs.Common.{◌≡◌, ◌+◌, ◌*◌, ℕ, zero, suc, List, [], ◌∷◌, length, Option, None, Some, slice_get, refl, sym, ap, ◌∙◌, subst, arith}
use Rattle.std.proofs.lemmas.List.Elements.{All-cons}
use Rattle.std.specs.Prelude.{IfSome, Vec}
use Rattle.std.specs.Global.{Global}
use Rattle.std.specs.List.{All}
use Rattle.mage_base.specs.Store.{StoreTold}
use Rattle.mage_instr.specs.declared.directive.Directive.{Directive}
use Rattle.mage_instr.specs.declared.directive.MemProgram.{MemProgram}
use Rattle.mage_instr.specs.declared.replaced.Limits.{Limits}
use Rattle.mage_verify.specs.Parts.{WorkerPart, parts_from, parts_of}
use Rattle.mage_core.specs.Made.{HasStoreOf}

parts_count : (limits : Limits) (stores : List ℕ) (first : ℕ) (workers : List (List Directive)) → length (parts_from limits stores first workers) ≡ length workers
parts_count limits stores first [] = refl
parts_count limits stores first (x ∷ xs) = ap suc (parts_count limits stores (first + 1) xs)

-- as many parts as workers
pub parts_long : (plan : MemProgram) (parts : List WorkerPart) → parts ≡ parts_of plan → length parts ≡ length plan.workers
parts_long plan parts are = ap length are ∙ parts_count plan.limits plan.stores 0 plan.workers

part_limits : (limits : Limits) (stores : List ℕ) (first : ℕ) (workers : List (List Directive)) (w : ℕ) →
    IfSome (slice_get (parts_from limits stores first workers) w) (λ part. part.limits ≡ limits)
part_limits limits stores first [] zero = tt
part_limits limits stores first [] (suc w) = tt
part_limits limits stores first (x ∷ xs) zero = refl
part_limits limits stores first (x ∷ xs) (suc w) = part_limits limits stores (first + 1) xs w

if_some : {X : Type 0} (P Q : X → Type 0) (o : Option X) → ((x : X) → P x → Q x) → IfSome o P → IfSome o Q
if_some P Q None f h = tt
if_some P Q (Some x) f h = f x h

module _ {S : Type 0} (wire_bytes : ℕ) (tells : S → StoreTold) where
  -- a shelf with one store, whose pages have 64 wires
  pub record HasOne (shelf : Vec S Global) : Type 0 where
    pub one : length shelf.items ≡ 1
    pub bytes : All (λ store. (tells store).page_bytes ≡ 64 * wire_bytes) shelf.items

  each_has : (stores : List (Vec S Global)) (w : ℕ) → All HasOne stores → IfSome (slice_get stores w) HasOne
  each_has [] zero all = tt
  each_has [] (suc w) all = tt
  each_has (x ∷ xs) zero all = all 0 x (omega arith)
  each_has (x ∷ xs) (suc w) all = each_has xs w (λ k d h. all (suc k) d (omega (arith, h)))

  pub suits_of : (plan : MemProgram) (parts : List WorkerPart) (stores : List (Vec S Global)) → parts ≡ parts_of plan →
      plan.limits.page ≡ 64 → All HasOne stores →
      (w : ℕ) → IfSome (slice_get parts w) (λ part. IfSome (slice_get stores w) (λ shelf. HasStoreOf wire_bytes tells part shelf.items))
  suits_of plan parts stores are page all w =
      subst (λ (ps : List WorkerPart). IfSome (slice_get ps w) (λ part. IfSome (slice_get stores w) (λ shelf. HasStoreOf wire_bytes tells part shelf.items))) (sym are)
      (if_some (λ (part : WorkerPart). part.limits ≡ plan.limits) (λ (part : WorkerPart). IfSome (slice_get stores w) (λ shelf. HasStoreOf wire_bytes tells part shelf.items))
      (slice_get (parts_of plan) w)
      (λ part same. if_some HasOne (λ (shelf : Vec S Global). HasStoreOf wire_bytes tells part shelf.items) (slice_get stores w)
      (λ shelf has. record {
        one = has.one;
        bytes = λ k d h. has.bytes k d h ∙ ap (λ (n : ℕ). n * wire_bytes) (sym (ap (λ (l : Limits). l.page) same ∙ page));
      }) (each_has stores w all))
      (part_limits plan.limits plan.stores 0 plan.workers w))

  pub lone_shelf : (stores : List (Vec S Global)) (shelf : Vec S Global) → stores ≡ shelf ∷ [] → HasOne shelf → All HasOne stores
  lone_shelf stores shelf are h = subst (All HasOne) (sym are) (All-cons HasOne shelf [] h (λ k d less. absurd (omega (arith, less))))

  pub one_shelf : (stores : List (Vec S Global)) (shelf : Vec S Global) (store : S) → stores ≡ shelf ∷ [] → shelf.items ≡ store ∷ [] →
      (tells store).page_bytes ≡ 64 * wire_bytes → All HasOne stores
  one_shelf stores shelf store are items page =
      lone_shelf stores shelf are (record {
        one = ap length items;
        bytes = subst (All (λ s. (tells s).page_bytes ≡ 64 * wire_bytes)) (sym items)
            (All-cons (λ s. (tells s).page_bytes ≡ 64 * wire_bytes) store [] page (λ k d h. absurd (omega (arith, h))));
      })

  pub two_shelves : (stores : List (Vec S Global)) (one two : Vec S Global) → stores ≡ one ∷ two ∷ [] → HasOne one → HasOne two → All HasOne stores
  two_shelves stores one two are h k =
      subst (All HasOne) (sym are) (All-cons HasOne one (two ∷ []) h (All-cons HasOne two [] k (λ n d less. absurd (omega (arith, less)))))
