-- Circuits that are put together from related ones are related; and so are sums, products, quotients and the others.
use Rattle.std.proofs.Common.{◌≡◌, ℕ, ◌+◌, ◌-◌, ◌^◌, ◌==◌, List, [], ◌∷◌, ◌++◌, Bool, true, false, cond, length, take, drop, reverse, replicate, get_or, refl, ap, ap₂, subst, append_assoc}
use Rattle.std.specs.List.{zip}
use Rattle.mage_driver.specs.Rules.{Rules}
use Rattle.mage_driver.specs.Calls.{Call}
use Rattle.mage_driver.specs.Circuits.{Circuit, given, followed, formed, anded, inverted, folded, closed}
use Rattle.mage_driver.specs.Operations.{Carried, Summed, Divided, Counted, one_more, each, and_bit, or_bit, choose_bit, replace_bit, carry_of, sum_bit, starting, with_carry, below, add_bit, add_last, added, subtract_bit, subtract_last, first_carry, subtracted, compared, less, same_bit, equal, least, greatest, row, multiply_bit, multiplied, moved_in, highest_of, either, taken_away, divide_bit, divided_by, divided, count_up, count_last, count_bit, counted}
use Rattle.mage_relations.specs.Each.{Each}
use Rattle.mage_relations.proofs.Keeping.{KeepsCalls, Keeps}
use Rattle.mage_relations.proofs.EachLemmas.{Both, each_append, each_take, each_drop, each_long, each_replicate, each_get, each_reverse, each_zip}

module _ {A B C : Type 0} (first : Rules A) (second : Rules B) (third : Rules C)
    (S : first.State → second.State → third.State → List (Call second.State B) → Type 0) (V : A → B → C → Type 0)
    (calls : KeepsCalls first second third S V) where
  -- circuits that are related
  abbrev pub Alike : {X Y Z : Type 0} → (X → Y → Z → Type 0) → Circuit first X → Circuit second Y → Circuit third Z → Type 0
  Alike Q c d e = Keeps first second third S V Q c d e

  pub keeps_given : {X Y Z : Type 0} (Q : X → Y → Z → Type 0) (x : X) (y : Y) (z : Z) → Q x y z → Alike Q (given first x) (given second y) (given third z)
  keeps_given Q x y z q s t u rest h = (h, q)

  pub keeps_followed : {X Y Z X' Y' Z' : Type 0} (P : X → Y → Z → Type 0) (Q : X' → Y' → Z' → Type 0)
      (c : Circuit first X) (d : Circuit second Y) (e : Circuit third Z) (c' : X → Circuit first X') (d' : Y → Circuit second Y') (e' : Z → Circuit third Z') →
      Alike P c d e → ((x : X) (y : Y) (z : Z) → P x y z → Alike Q (c' x) (d' y) (e' z)) → Alike Q (followed first c c') (followed second d d') (followed third e e')
  keeps_followed P Q c d e c' d' e' one next s t u rest h =
      let later = (d' (d t).wires (d t).state).calls in
      let mid = one s t u (later ++ rest) (subst (λ (xs : List (Call second.State B)). S s t u xs) (append_assoc (d t).calls later rest) h) in
      next (c s).wires (d t).wires (e u).wires mid.1 (c s).state (d t).state (e u).state rest mid.0

  pub keeps_formed : {X Y Z X' Y' Z' : Type 0} (P : X → Y → Z → Type 0) (Q : X' → Y' → Z' → Type 0) (f : X → X') (g : Y → Y') (h : Z → Z')
      (c : Circuit first X) (d : Circuit second Y) (e : Circuit third Z) →
      Alike P c d e → ((x : X) (y : Y) (z : Z) → P x y z → Q (f x) (g y) (h z)) → Alike Q (formed first f c) (formed second g d) (formed third h e)
  keeps_formed P Q f g h c d e one form s t u rest i =
      let all = one s t u rest i in (all.0, form (c s).wires (d t).wires (e u).wires all.1)

  pub keeps_anded : (a a' : A) (b b' : B) (c c' : C) → V a b c → V a' b' c' → Alike V (anded first a a') (anded second b b') (anded third c c')
  keeps_anded a a' b b' c c' v v' s t u rest h = calls.and s t u rest a a' b b' c c' h v v'

  pub keeps_inverted : (a : A) (b : B) (c : C) → V a b c → Alike V (inverted first a) (inverted second b) (inverted third c)
  keeps_inverted a b c v s t u rest h = (h, calls.not s t u rest a b c h v)

  pub keeps_folded : {X Y Z I J K : Type 0} (P : X → Y → Z → Type 0) (Q : I → J → K → Type 0)
      (c : X → I → Circuit first X) (d : Y → J → Circuit second Y) (e : Z → K → Circuit third Z) →
      ((x : X) (y : Y) (z : Z) (i : I) (j : J) (k : K) → P x y z → Q i j k → Alike P (c x i) (d y j) (e z k)) →
      (x : X) (y : Y) (z : Z) (is : List I) (js : List J) (ks : List K) → P x y z → Each Q is js ks → Alike P (folded first c x is) (folded second d y js) (folded third e z ks)
  keeps_folded P Q c d e step x y z [] [] [] p each = keeps_given P x y z p
  keeps_folded P Q c d e step x y z [] [] (k ∷ ks) p each = absurd each
  keeps_folded P Q c d e step x y z [] (j ∷ js) [] p each = absurd each
  keeps_folded P Q c d e step x y z [] (j ∷ js) (k ∷ ks) p each = absurd each
  keeps_folded P Q c d e step x y z (i ∷ is) [] [] p each = absurd each
  keeps_folded P Q c d e step x y z (i ∷ is) [] (k ∷ ks) p each = absurd each
  keeps_folded P Q c d e step x y z (i ∷ is) (j ∷ js) [] p each = absurd each
  keeps_folded P Q c d e step x y z (i ∷ is) (j ∷ js) (k ∷ ks) p each =
      keeps_followed P P (c x i) (d y j) (e z k) (λ x'. folded first c x' is) (λ y'. folded second d y' js) (λ z'. folded third e z' ks)
      (step x y z i j k p each.0) (λ x' y' z' p'. keeps_folded P Q c d e step x' y' z' is js ks p' each.1)

  pub keeps_closed : {X Y Z I J K : Type 0} (P : X → Y → Z → Type 0) (Q : I → J → K → Type 0)
      (c c' : X → I → Circuit first X) (d d' : Y → J → Circuit second Y) (e e' : Z → K → Circuit third Z) →
      ((x : X) (y : Y) (z : Z) (i : I) (j : J) (k : K) → P x y z → Q i j k → Alike P (c x i) (d y j) (e z k)) →
      ((x : X) (y : Y) (z : Z) (i : I) (j : J) (k : K) → P x y z → Q i j k → Alike P (c' x i) (d' y j) (e' z k)) →
      (x : X) (y : Y) (z : Z) (is : List I) (js : List J) (ks : List K) → P x y z → Each Q is js ks →
      Alike P (closed first c c' x is) (closed second d d' y js) (closed third e e' z ks)
  keeps_closed {X} {Y} {Z} {I} {J} {K} P Q c c' d d' e e' step last x y z is js ks p each =
      let long = each_long Q is js ks each in
      let n : ℕ = length is - 1 in
      let m : ℕ = length js - 1 in
      let same : n ≡ m = ap (λ (l : ℕ). l - 1) long.0 in
      let same' : m ≡ length ks - 1 = ap (λ (l : ℕ). l - 1) long.1 in
      let fronts : Each Q (take n is) (take m js) (take (length ks - 1) ks) =
      subst (λ (k : ℕ). Each Q (take n is) (take m js) (take k ks)) same' (subst (λ (k : ℕ). Each Q (take n is) (take k js) (take k ks)) same (each_take Q n is js ks each)) in
      let ends : Each Q (drop n is) (drop m js) (drop (length ks - 1) ks) =
      subst (λ (k : ℕ). Each Q (drop n is) (drop m js) (drop k ks)) same' (subst (λ (k : ℕ). Each Q (drop n is) (drop k js) (drop k ks)) same (each_drop Q n is js ks each)) in
      keeps_followed P P (folded first c x (take n is)) (folded second d y (take m js)) (folded third e z (take (length ks - 1) ks))
      (λ x'. folded first c' x' (drop n is)) (λ y'. folded second d' y' (drop m js)) (λ z'. folded third e' z' (drop (length ks - 1) ks))
      (keeps_folded P Q c d e step x y z (take n is) (take m js) (take (length ks - 1) ks) p fronts)
      (λ x' y' z' p'. keeps_folded P Q c' d' e' last x' y' z' (drop n is) (drop m js) (drop (length ks - 1) ks) p' ends)

  -- one wire for each item
  pub keeps_each : {I J K : Type 0} (Q : I → J → K → Type 0) (c : I → Circuit first A) (d : J → Circuit second B) (e : K → Circuit third C) →
      ((i : I) (j : J) (k : K) → Q i j k → Alike V (c i) (d j) (e k)) →
      (is : List I) (js : List J) (ks : List K) → Each Q is js ks → Alike (Each V) (each first c is) (each second d js) (each third e ks)
  keeps_each Q c d e bit is js ks all =
      keeps_folded (Each V) Q (one_more first c) (one_more second d) (one_more third e)
      (λ x y z i j k p q. keeps_formed V (Each V) (λ w. x ++ w ∷ []) (λ w. y ++ w ∷ []) (λ w. z ++ w ∷ []) (c i) (d j) (e k) (bit i j k q)
      (λ w w' w'' v. each_append V x (w ∷ []) y (w' ∷ []) z (w'' ∷ []) p (v, tt)))
      [] [] [] is js ks tt all

  -- ---- operations

  -- pairs of wires
  abbrev pub VV : A × A → B × B → C × C → Type 0
  VV p q r = Both V V p q r

  xors : (a a' : A) (b b' : B) (c c' : C) → V a b c → V a' b' c' → V (first.xor a a') (second.xor b b') (third.xor c c')
  xors a a' b b' c c' v v' = calls.xor a a' b b' c c' v v'

  pub keeps_and_bit : (p : A × A) (q : B × B) (r : C × C) → VV p q r → Alike V (and_bit first p) (and_bit second q) (and_bit third r)
  keeps_and_bit p q r v = keeps_anded p.0 p.1 q.0 q.1 r.0 r.1 v.0 v.1

  pub keeps_or_bit : (p : A × A) (q : B × B) (r : C × C) → VV p q r → Alike V (or_bit first p) (or_bit second q) (or_bit third r)
  keeps_or_bit p q r v =
      keeps_formed V V (λ both. first.xor (first.xor p.0 p.1) both) (λ both. second.xor (second.xor q.0 q.1) both) (λ both. third.xor (third.xor r.0 r.1) both)
      (and_bit first p) (and_bit second q) (and_bit third r) (keeps_and_bit p q r v)
      (λ x y z w. xors _ x _ y _ z (xors p.0 p.1 q.0 q.1 r.0 r.1 v.0 v.1) w)

  pub keeps_choose_bit : (a : A) (b : B) (c : C) → V a b c → (p : A × A) (q : B × B) (r : C × C) → VV p q r → Alike V (choose_bit first a p) (choose_bit second b q) (choose_bit third c r)
  keeps_choose_bit a b c u p q r v =
      keeps_formed V V (λ both. first.xor p.1 both) (λ both. second.xor q.1 both) (λ both. third.xor r.1 both)
      (anded first a (first.xor p.0 p.1)) (anded second b (second.xor q.0 q.1)) (anded third c (third.xor r.0 r.1))
      (keeps_anded a _ b _ c _ u (xors p.0 p.1 q.0 q.1 r.0 r.1 v.0 v.1))
      (λ x y z w. xors p.1 x q.1 y r.1 z v.1 w)

  keeps_replace_bit : (a : A) (b : B) (c : C) → V a b c → (p : A × A) (q : B × B) (r : C × C) → VV p q r → Alike V (replace_bit first a p) (replace_bit second b q) (replace_bit third c r)
  keeps_replace_bit a b c u p q r v =
      keeps_formed V V (λ both. first.xor p.0 both) (λ both. second.xor q.0 both) (λ both. third.xor r.0 both)
      (anded first a (first.xor p.0 p.1)) (anded second b (second.xor q.0 q.1)) (anded third c (third.xor r.0 r.1))
      (keeps_anded a _ b _ c _ u (xors p.0 p.1 q.0 q.1 r.0 r.1 v.0 v.1))
      (λ x y z w. xors p.0 x q.0 y r.0 z v.0 w)

  -- a carry beside bits
  abbrev pub VCarried : Carried A → Carried B → Carried C → Type 0
  VCarried x y z = V x.carry y.carry z.carry × Each V x.bits y.bits z.bits

  keeps_carry_of : (a a' a'' : A) (b b' b'' : B) (c c' c'' : C) → V a b c → V a' b' c' → V a'' b'' c'' → Alike V (carry_of first a a' a'') (carry_of second b b' b'') (carry_of third c c' c'')
  keeps_carry_of a a' a'' b b' b'' c c' c'' v v' v'' =
      keeps_formed V V (λ both. first.xor a'' both) (λ both. second.xor b'' both) (λ both. third.xor c'' both)
      (anded first (first.xor a a'') (first.xor a' a'')) (anded second (second.xor b b'') (second.xor b' b'')) (anded third (third.xor c c'') (third.xor c' c''))
      (keeps_anded _ _ _ _ _ _ (xors a a'' b b'' c c'' v v'') (xors a' a'' b' b'' c' c'' v' v''))
      (λ x y z w. xors a'' x b'' y c'' z v'' w)

  sum_bits : (a a' a'' : A) (b b' b'' : B) (c c' c'' : C) → V a b c → V a' b' c' → V a'' b'' c'' → V (sum_bit first a a' a'') (sum_bit second b b' b'') (sum_bit third c c' c'')
  sum_bits a a' a'' b b' b'' c c' c'' v v' v'' = xors _ a'' _ b'' _ c'' (xors a a' b b' c c' v v') v''

  keeps_add_bit : (x : Carried A) (y : Carried B) (z : Carried C) (p : A × A) (q : B × B) (r : C × C) → VCarried x y z → VV p q r → Alike VCarried (add_bit first x p) (add_bit second y q) (add_bit third z r)
  keeps_add_bit x y z p q r w v =
      keeps_formed V VCarried
      (λ (carry : A). record { carry = carry; bits = x.bits ++ sum_bit first p.0 p.1 x.carry ∷ [] })
      (λ (carry : B). record { carry = carry; bits = y.bits ++ sum_bit second q.0 q.1 y.carry ∷ [] })
      (λ (carry : C). record { carry = carry; bits = z.bits ++ sum_bit third r.0 r.1 z.carry ∷ [] })
      (carry_of first p.0 p.1 x.carry) (carry_of second q.0 q.1 y.carry) (carry_of third r.0 r.1 z.carry)
      (keeps_carry_of p.0 p.1 x.carry q.0 q.1 y.carry r.0 r.1 z.carry v.0 v.1 w.0)
      (λ a b c u. (u, each_append V x.bits _ y.bits _ z.bits _ w.1 (sum_bits p.0 p.1 x.carry q.0 q.1 y.carry r.0 r.1 z.carry v.0 v.1 w.0, tt)))

  keeps_add_last : (x : Carried A) (y : Carried B) (z : Carried C) (p : A × A) (q : B × B) (r : C × C) → VCarried x y z → VV p q r → Alike VCarried (add_last first x p) (add_last second y q) (add_last third z r)
  keeps_add_last x y z p q r w v s t u rest h =
      (h, (w.0, each_append V x.bits _ y.bits _ z.bits _ w.1 (sum_bits p.0 p.1 x.carry q.0 q.1 y.carry r.0 r.1 z.carry v.0 v.1 w.0, tt)))

  -- the bits behind the first
  behind : (a : A) (b : B) (c : C) → V a b c → (x : Carried A) (y : Carried B) (z : Carried C) → VCarried x y z → Each V (a ∷ x.bits) (b ∷ y.bits) (c ∷ z.bits)
  behind a b c v x y z w = (v, w.1)

  pub keeps_added : (ps : List (A × A)) (qs : List (B × B)) (rs : List (C × C)) → Each VV ps qs rs → Alike (Each V) (added first ps) (added second qs) (added third rs)
  keeps_added [] [] [] e = keeps_given (Each V) [] [] [] tt
  keeps_added [] [] (r ∷ rs) e = absurd e
  keeps_added [] (q ∷ qs) [] e = absurd e
  keeps_added [] (q ∷ qs) (r ∷ rs) e = absurd e
  keeps_added (p ∷ ps) [] [] e = absurd e
  keeps_added (p ∷ ps) [] (r ∷ rs) e = absurd e
  keeps_added (p ∷ ps) (q ∷ qs) [] e = absurd e
  keeps_added (p ∷ []) (q ∷ []) (r ∷ []) e =
      keeps_given (Each V) (first.xor p.0 p.1 ∷ []) (second.xor q.0 q.1 ∷ []) (third.xor r.0 r.1 ∷ []) (xors p.0 p.1 q.0 q.1 r.0 r.1 e.0.0 e.0.1, tt)
  keeps_added (p ∷ []) (q ∷ []) (r ∷ r' ∷ rs) e = absurd e.1
  keeps_added (p ∷ []) (q ∷ q' ∷ qs) (r ∷ []) e = absurd e.1
  keeps_added (p ∷ []) (q ∷ q' ∷ qs) (r ∷ r' ∷ rs) e = absurd e.1
  keeps_added (p ∷ p' ∷ ps) (q ∷ []) (r ∷ []) e = absurd e.1
  keeps_added (p ∷ p' ∷ ps) (q ∷ []) (r ∷ r' ∷ rs) e = absurd e.1
  keeps_added (p ∷ p' ∷ ps) (q ∷ q' ∷ qs) (r ∷ []) e = absurd e.1
  keeps_added (p ∷ p' ∷ ps) (q ∷ q' ∷ qs) (r ∷ r' ∷ rs) e =
      keeps_followed V (Each V) (anded first p.0 p.1) (anded second q.0 q.1) (anded third r.0 r.1)
      (λ carry. formed first (λ so_far. first.xor p.0 p.1 ∷ so_far.bits) (closed first (add_bit first) (add_last first) (starting first carry) (p' ∷ ps)))
      (λ carry. formed second (λ so_far. second.xor q.0 q.1 ∷ so_far.bits) (closed second (add_bit second) (add_last second) (starting second carry) (q' ∷ qs)))
      (λ carry. formed third (λ so_far. third.xor r.0 r.1 ∷ so_far.bits) (closed third (add_bit third) (add_last third) (starting third carry) (r' ∷ rs)))
      (keeps_anded p.0 p.1 q.0 q.1 r.0 r.1 e.0.0 e.0.1)
      (λ a b c v. keeps_formed VCarried (Each V) (λ so_far. first.xor p.0 p.1 ∷ so_far.bits) (λ so_far. second.xor q.0 q.1 ∷ so_far.bits) (λ so_far. third.xor r.0 r.1 ∷ so_far.bits)
      (closed first (add_bit first) (add_last first) (starting first a) (p' ∷ ps)) (closed second (add_bit second) (add_last second) (starting second b) (q' ∷ qs)) (closed third (add_bit third) (add_last third) (starting third c) (r' ∷ rs))
      (keeps_closed VCarried VV (add_bit first) (add_last first) (add_bit second) (add_last second) (add_bit third) (add_last third)
      keeps_add_bit keeps_add_last (starting first a) (starting second b) (starting third c) (p' ∷ ps) (q' ∷ qs) (r' ∷ rs) (v, tt) e.1)
      (behind _ _ _ (xors p.0 p.1 q.0 q.1 r.0 r.1 e.0.0 e.0.1)))

  keeps_subtract_bit : (x : Carried A) (y : Carried B) (z : Carried C) (p : A × A) (q : B × B) (r : C × C) → VCarried x y z → VV p q r → Alike VCarried (subtract_bit first x p) (subtract_bit second y q) (subtract_bit third z r)
  keeps_subtract_bit x y z p q r w v =
      keeps_followed V VCarried (inverted first p.1) (inverted second q.1) (inverted third r.1)
      (λ turned. add_bit first x (p.0, turned)) (λ turned. add_bit second y (q.0, turned)) (λ turned. add_bit third z (r.0, turned))
      (keeps_inverted p.1 q.1 r.1 v.1) (λ a b c u. keeps_add_bit x y z (p.0, a) (q.0, b) (r.0, c) w (v.0, u))

  keeps_subtract_last : (x : Carried A) (y : Carried B) (z : Carried C) (p : A × A) (q : B × B) (r : C × C) → VCarried x y z → VV p q r → Alike VCarried (subtract_last first x p) (subtract_last second y q) (subtract_last third z r)
  keeps_subtract_last x y z p q r w v =
      keeps_followed V VCarried (inverted first p.1) (inverted second q.1) (inverted third r.1)
      (λ turned. add_last first x (p.0, turned)) (λ turned. add_last second y (q.0, turned)) (λ turned. add_last third z (r.0, turned))
      (keeps_inverted p.1 q.1 r.1 v.1) (λ a b c u. keeps_add_last x y z (p.0, a) (q.0, b) (r.0, c) w (v.0, u))

  keeps_first_carry : (p : A × A) (q : B × B) (r : C × C) → VV p q r → Alike V (first_carry first p) (first_carry second q) (first_carry third r)
  keeps_first_carry p q r v =
      keeps_followed V V (inverted first p.0) (inverted second q.0) (inverted third r.0)
      (λ turned. followed first (anded first turned p.1) (inverted first)) (λ turned. followed second (anded second turned q.1) (inverted second)) (λ turned. followed third (anded third turned r.1) (inverted third))
      (keeps_inverted p.0 q.0 r.0 v.0)
      (λ a b c u. keeps_followed V V (anded first a p.1) (anded second b q.1) (anded third c r.1) (inverted first) (inverted second) (inverted third)
      (keeps_anded a p.1 b q.1 c r.1 u v.1) keeps_inverted)

  pub keeps_subtracted : (ps : List (A × A)) (qs : List (B × B)) (rs : List (C × C)) → Each VV ps qs rs → Alike (Each V) (subtracted first ps) (subtracted second qs) (subtracted third rs)
  keeps_subtracted [] [] [] e = keeps_given (Each V) [] [] [] tt
  keeps_subtracted [] [] (r ∷ rs) e = absurd e
  keeps_subtracted [] (q ∷ qs) [] e = absurd e
  keeps_subtracted [] (q ∷ qs) (r ∷ rs) e = absurd e
  keeps_subtracted (p ∷ ps) [] [] e = absurd e
  keeps_subtracted (p ∷ ps) [] (r ∷ rs) e = absurd e
  keeps_subtracted (p ∷ ps) (q ∷ qs) [] e = absurd e
  keeps_subtracted (p ∷ []) (q ∷ []) (r ∷ []) e =
      keeps_given (Each V) (first.xor p.0 p.1 ∷ []) (second.xor q.0 q.1 ∷ []) (third.xor r.0 r.1 ∷ []) (xors p.0 p.1 q.0 q.1 r.0 r.1 e.0.0 e.0.1, tt)
  keeps_subtracted (p ∷ []) (q ∷ []) (r ∷ r' ∷ rs) e = absurd e.1
  keeps_subtracted (p ∷ []) (q ∷ q' ∷ qs) (r ∷ []) e = absurd e.1
  keeps_subtracted (p ∷ []) (q ∷ q' ∷ qs) (r ∷ r' ∷ rs) e = absurd e.1
  keeps_subtracted (p ∷ p' ∷ ps) (q ∷ []) (r ∷ []) e = absurd e.1
  keeps_subtracted (p ∷ p' ∷ ps) (q ∷ []) (r ∷ r' ∷ rs) e = absurd e.1
  keeps_subtracted (p ∷ p' ∷ ps) (q ∷ q' ∷ qs) (r ∷ []) e = absurd e.1
  keeps_subtracted (p ∷ p' ∷ ps) (q ∷ q' ∷ qs) (r ∷ r' ∷ rs) e =
      keeps_followed V (Each V) (first_carry first p) (first_carry second q) (first_carry third r)
      (λ carry. formed first (λ so_far. first.xor p.0 p.1 ∷ so_far.bits) (closed first (subtract_bit first) (subtract_last first) (starting first carry) (p' ∷ ps)))
      (λ carry. formed second (λ so_far. second.xor q.0 q.1 ∷ so_far.bits) (closed second (subtract_bit second) (subtract_last second) (starting second carry) (q' ∷ qs)))
      (λ carry. formed third (λ so_far. third.xor r.0 r.1 ∷ so_far.bits) (closed third (subtract_bit third) (subtract_last third) (starting third carry) (r' ∷ rs)))
      (keeps_first_carry p q r e.0)
      (λ a b c v. keeps_formed VCarried (Each V) (λ so_far. first.xor p.0 p.1 ∷ so_far.bits) (λ so_far. second.xor q.0 q.1 ∷ so_far.bits) (λ so_far. third.xor r.0 r.1 ∷ so_far.bits)
      (closed first (subtract_bit first) (subtract_last first) (starting first a) (p' ∷ ps)) (closed second (subtract_bit second) (subtract_last second) (starting second b) (q' ∷ qs)) (closed third (subtract_bit third) (subtract_last third) (starting third c) (r' ∷ rs))
      (keeps_closed VCarried VV (subtract_bit first) (subtract_last first) (subtract_bit second) (subtract_last second) (subtract_bit third) (subtract_last third)
      keeps_subtract_bit keeps_subtract_last (starting first a) (starting second b) (starting third c) (p' ∷ ps) (q' ∷ qs) (r' ∷ rs) (v, tt) e.1)
      (behind _ _ _ (xors p.0 p.1 q.0 q.1 r.0 r.1 e.0.0 e.0.1)))

  -- constants come from the states
  constants : (s : first.State) (t : second.State) (u : third.State) (rest : List (Call second.State B)) (bit : Bool) → S s t u rest → V (first.constant s bit) (second.constant t bit) (third.constant u bit)
  constants s t u rest bit h = calls.constant s t u rest bit h

  keeps_compared : (ps : List (A × A)) (qs : List (B × B)) (rs : List (C × C)) → Each VV ps qs rs → Alike VCarried (compared first ps) (compared second qs) (compared third rs)
  keeps_compared [] [] [] e = λ s t u rest h. (h, (constants s t u rest true h, tt))
  keeps_compared [] [] (r ∷ rs) e = absurd e
  keeps_compared [] (q ∷ qs) [] e = absurd e
  keeps_compared [] (q ∷ qs) (r ∷ rs) e = absurd e
  keeps_compared (p ∷ ps) [] [] e = absurd e
  keeps_compared (p ∷ ps) [] (r ∷ rs) e = absurd e
  keeps_compared (p ∷ ps) (q ∷ qs) [] e = absurd e
  keeps_compared (p ∷ ps) (q ∷ qs) (r ∷ rs) e =
      keeps_followed V VCarried (first_carry first p) (first_carry second q) (first_carry third r)
      (λ carry. formed first (below first (first.xor p.0 p.1)) (folded first (subtract_bit first) (starting first carry) ps))
      (λ carry. formed second (below second (second.xor q.0 q.1)) (folded second (subtract_bit second) (starting second carry) qs))
      (λ carry. formed third (below third (third.xor r.0 r.1)) (folded third (subtract_bit third) (starting third carry) rs))
      (keeps_first_carry p q r e.0)
      (λ a b c v. keeps_formed VCarried VCarried (below first (first.xor p.0 p.1)) (below second (second.xor q.0 q.1)) (below third (third.xor r.0 r.1))
      (folded first (subtract_bit first) (starting first a) ps) (folded second (subtract_bit second) (starting second b) qs) (folded third (subtract_bit third) (starting third c) rs)
      (keeps_folded VCarried VV (subtract_bit first) (subtract_bit second) (subtract_bit third) keeps_subtract_bit (starting first a) (starting second b) (starting third c) ps qs rs (v, tt) e.1)
      (λ x y z w. (w.0, (xors p.0 p.1 q.0 q.1 r.0 r.1 e.0.0 e.0.1, w.1))))

  pub keeps_less : (ps : List (A × A)) (qs : List (B × B)) (rs : List (C × C)) → Each VV ps qs rs → Alike V (less first ps) (less second qs) (less third rs)
  keeps_less ps qs rs e =
      keeps_followed VCarried V (compared first ps) (compared second qs) (compared third rs)
      (λ so_far. inverted first so_far.carry) (λ so_far. inverted second so_far.carry) (λ so_far. inverted third so_far.carry)
      (keeps_compared ps qs rs e) (λ x y z w. keeps_inverted x.carry y.carry z.carry w.0)

  keeps_same_bit : (a : A) (b : B) (c : C) (p : A × A) (q : B × B) (r : C × C) → V a b c → VV p q r → Alike V (same_bit first a p) (same_bit second b q) (same_bit third c r)
  keeps_same_bit a b c p q r u v =
      keeps_followed V V (inverted first (first.xor p.0 p.1)) (inverted second (second.xor q.0 q.1)) (inverted third (third.xor r.0 r.1))
      (λ turned. anded first a turned) (λ turned. anded second b turned) (λ turned. anded third c turned)
      (keeps_inverted _ _ _ (xors p.0 p.1 q.0 q.1 r.0 r.1 v.0 v.1)) (λ a' b' c' u'. keeps_anded a a' b b' c c' u u')

  pub keeps_equal : (ps : List (A × A)) (qs : List (B × B)) (rs : List (C × C)) → Each VV ps qs rs → Alike V (equal first ps) (equal second qs) (equal third rs)
  keeps_equal [] [] [] e = λ s t u rest h. (h, constants s t u rest true h)
  keeps_equal [] [] (r ∷ rs) e = absurd e
  keeps_equal [] (q ∷ qs) [] e = absurd e
  keeps_equal [] (q ∷ qs) (r ∷ rs) e = absurd e
  keeps_equal (p ∷ ps) [] [] e = absurd e
  keeps_equal (p ∷ ps) [] (r ∷ rs) e = absurd e
  keeps_equal (p ∷ ps) (q ∷ qs) [] e = absurd e
  keeps_equal (p ∷ ps) (q ∷ qs) (r ∷ rs) e =
      keeps_followed V V (inverted first (first.xor p.0 p.1)) (inverted second (second.xor q.0 q.1)) (inverted third (third.xor r.0 r.1))
      (λ same. folded first (same_bit first) same ps) (λ same. folded second (same_bit second) same qs) (λ same. folded third (same_bit third) same rs)
      (keeps_inverted _ _ _ (xors p.0 p.1 q.0 q.1 r.0 r.1 e.0.0 e.0.1))
      (λ a b c v. keeps_folded V VV (same_bit first) (same_bit second) (same_bit third) keeps_same_bit a b c ps qs rs v e.1)

  pub keeps_least : (ps : List (A × A)) (qs : List (B × B)) (rs : List (C × C)) → Each VV ps qs rs → Alike (Each V) (least first ps) (least second qs) (least third rs)
  keeps_least ps qs rs e =
      keeps_followed V (Each V) (less first ps) (less second qs) (less third rs)
      (λ is_less. each first (choose_bit first is_less) ps) (λ is_less. each second (choose_bit second is_less) qs) (λ is_less. each third (choose_bit third is_less) rs)
      (keeps_less ps qs rs e)
      (λ a b c v. keeps_each VV (choose_bit first a) (choose_bit second b) (choose_bit third c) (keeps_choose_bit a b c v) ps qs rs e)

  pub keeps_greatest : (ps : List (A × A)) (qs : List (B × B)) (rs : List (C × C)) → Each VV ps qs rs → Alike (Each V) (greatest first ps) (greatest second qs) (greatest third rs)
  keeps_greatest ps qs rs e =
      keeps_followed V (Each V) (less first ps) (less second qs) (less third rs)
      (λ is_less. each first (replace_bit first is_less) ps) (λ is_less. each second (replace_bit second is_less) qs) (λ is_less. each third (replace_bit third is_less) rs)
      (keeps_less ps qs rs e)
      (λ a b c v. keeps_each VV (replace_bit first a) (replace_bit second b) (replace_bit third c) (keeps_replace_bit a b c v) ps qs rs e)

  keeps_row : (xs : List A) (ys : List B) (zs : List C) (a : A) (b : B) (c : C) → Each V xs ys zs → V a b c → Alike (Each V) (row first xs a) (row second ys b) (row third zs c)
  keeps_row xs ys zs a b c e v =
      keeps_each V (λ bit. anded first bit a) (λ bit. anded second bit b) (λ bit. anded third bit c)
      (λ x y z w. keeps_anded x a y b z c w v) xs ys zs e

  -- bits that are done, and a sum
  abbrev pub VSummed : Summed A → Summed B → Summed C → Type 0
  VSummed x y z = Each V x.done y.done z.done × Each V x.sum y.sum z.sum

  keeps_multiply_bit : (xs : List A) (ys : List B) (zs : List C) → Each V xs ys zs → (x : Summed A) (y : Summed B) (z : Summed C) (a : A) (b : B) (c : C) → VSummed x y z → V a b c →
      Alike VSummed (multiply_bit first xs x a) (multiply_bit second ys y b) (multiply_bit third zs z c)
  keeps_multiply_bit xs ys zs e x y z a b c w v =
      let long = each_long V x.sum y.sum z.sum w.1 in
      let n : ℕ = length x.sum - 1 in
      let m : ℕ = length y.sum - 1 in
      let l : ℕ = length z.sum - 1 in
      let same : n ≡ m = ap (λ (k : ℕ). k - 1) long.0 in
      let same' : m ≡ l = ap (λ (k : ℕ). k - 1) long.1 in
      let parts : Each V (take n xs) (take m ys) (take l zs) =
      subst (λ (k : ℕ). Each V (take n xs) (take m ys) (take k zs)) same' (subst (λ (k : ℕ). Each V (take n xs) (take k ys) (take k zs)) same (each_take V n xs ys zs e)) in
      keeps_followed (Each V) VSummed (row first (take n xs) a) (row second (take m ys) b) (row third (take l zs) c)
      (λ line. formed first (λ sum. record { done = x.done ++ take 1 x.sum; sum = sum }) (added first (zip (drop 1 x.sum) line)))
      (λ line. formed second (λ sum. record { done = y.done ++ take 1 y.sum; sum = sum }) (added second (zip (drop 1 y.sum) line)))
      (λ line. formed third (λ sum. record { done = z.done ++ take 1 z.sum; sum = sum }) (added third (zip (drop 1 z.sum) line)))
      (keeps_row (take n xs) (take m ys) (take l zs) a b c parts v)
      (λ o p q f. keeps_formed (Each V) VSummed (λ (sum : List A). record { done = x.done ++ take 1 x.sum; sum = sum }) (λ (sum : List B). record { done = y.done ++ take 1 y.sum; sum = sum }) (λ (sum : List C). record { done = z.done ++ take 1 z.sum; sum = sum })
      (added first (zip (drop 1 x.sum) o)) (added second (zip (drop 1 y.sum) p)) (added third (zip (drop 1 z.sum) q))
      (keeps_added (zip (drop 1 x.sum) o) (zip (drop 1 y.sum) p) (zip (drop 1 z.sum) q) (each_zip V (drop 1 x.sum) o (drop 1 y.sum) p (drop 1 z.sum) q (each_drop V 1 x.sum y.sum z.sum w.1) f))
      (λ i j k g. (each_append V x.done (take 1 x.sum) y.done (take 1 y.sum) z.done (take 1 z.sum) w.0 (each_take V 1 x.sum y.sum z.sum w.1), g)))

  pub keeps_multiplied : (xs : List A) (ys : List B) (zs : List C) (xs' : List A) (ys' : List B) (zs' : List C) → Each V xs ys zs → Each V xs' ys' zs' → Alike (Each V) (multiplied first xs xs') (multiplied second ys ys') (multiplied third zs zs')
  keeps_multiplied xs ys zs [] [] [] e f = keeps_given (Each V) [] [] [] tt
  keeps_multiplied xs ys zs [] [] (c ∷ cs) e f = absurd f
  keeps_multiplied xs ys zs [] (b ∷ bs) [] e f = absurd f
  keeps_multiplied xs ys zs [] (b ∷ bs) (c ∷ cs) e f = absurd f
  keeps_multiplied xs ys zs (a ∷ ls) [] [] e f = absurd f
  keeps_multiplied xs ys zs (a ∷ ls) [] (c ∷ cs) e f = absurd f
  keeps_multiplied xs ys zs (a ∷ ls) (b ∷ bs) [] e f = absurd f
  keeps_multiplied xs ys zs (a ∷ ls) (b ∷ bs) (c ∷ cs) e f =
      keeps_followed (Each V) (Each V) (row first xs a) (row second ys b) (row third zs c)
      (λ line. formed first (λ so_far. so_far.done ++ so_far.sum) (folded first (multiply_bit first xs) (record { done = []; sum = line }) ls))
      (λ line. formed second (λ so_far. so_far.done ++ so_far.sum) (folded second (multiply_bit second ys) (record { done = []; sum = line }) bs))
      (λ line. formed third (λ so_far. so_far.done ++ so_far.sum) (folded third (multiply_bit third zs) (record { done = []; sum = line }) cs))
      (keeps_row xs ys zs a b c e f.0)
      (λ o p q g. keeps_formed VSummed (Each V) (λ so_far. so_far.done ++ so_far.sum) (λ so_far. so_far.done ++ so_far.sum) (λ so_far. so_far.done ++ so_far.sum)
      (folded first (multiply_bit first xs) (record { done = []; sum = o }) ls) (folded second (multiply_bit second ys) (record { done = []; sum = p }) bs) (folded third (multiply_bit third zs) (record { done = []; sum = q }) cs)
      (keeps_folded VSummed V (multiply_bit first xs) (multiply_bit second ys) (multiply_bit third zs) (keeps_multiply_bit xs ys zs e) (record { done = []; sum = o }) (record { done = []; sum = p }) (record { done = []; sum = q }) ls bs cs (tt, g) f.1)
      (λ x y z w. each_append V x.done x.sum y.done y.sum z.done z.sum w.0 w.1))

  -- what is left of a dividend, with a bit more
  each_moved_in : (a : A) (b : B) (c : C) (xs : List A) (ys : List B) (zs : List C) → V a b c → Each V xs ys zs → Each V (moved_in first a xs) (moved_in second b ys) (moved_in third c zs)
  each_moved_in a b c xs ys zs v e =
      let long = each_long V xs ys zs e in
      let n : ℕ = length xs - 1 in
      let m : ℕ = length ys - 1 in
      let same : n ≡ m = ap (λ (k : ℕ). k - 1) long.0 in
      let same' : m ≡ length zs - 1 = ap (λ (k : ℕ). k - 1) long.1 in
      (v, subst (λ (k : ℕ). Each V (take n xs) (take m ys) (take k zs)) same' (subst (λ (k : ℕ). Each V (take n xs) (take k ys) (take k zs)) same (each_take V n xs ys zs e)))

  highest : (a : A) (b : B) (c : C) (xs : List A) (ys : List B) (zs : List C) → V a b c → Each V xs ys zs → V (highest_of first a xs) (highest_of second b ys) (highest_of third c zs)
  highest a b c xs ys zs v e =
      let long = each_long V xs ys zs e in
      let n : ℕ = length xs - 1 in
      let m : ℕ = length ys - 1 in
      let same : n ≡ m = ap (λ (k : ℕ). k - 1) long.0 in
      let same' : m ≡ length zs - 1 = ap (λ (k : ℕ). k - 1) long.1 in
      subst (λ (k : ℕ). V (get_or xs n a) (get_or ys m b) (get_or zs k c)) same' (subst (λ (k : ℕ). V (get_or xs n a) (get_or ys k b) (get_or zs k c)) same (each_get V xs ys zs n a b c e v))

  eithers : (a a' a'' : A) (b b' b'' : B) (c c' c'' : C) → V a b c → V a' b' c' → V a'' b'' c'' → V (either first a a' a'') (either second b b' b'') (either third c c' c'')
  eithers a a' a'' b b' b'' c c' c'' v v' v'' = xors _ a'' _ b'' _ c'' (xors a a' b b' c c' v v') v''

  -- the bits of a difference where it was taken away
  keeps_replaced : (a : A) (b : B) (c : C) (o : A) (p : B) (q : C) (xs xs' : List A) (ys ys' : List B) (zs zs' : List C) → V a b c → Each V xs ys zs → Each V xs' ys' zs' →
      Alike VCarried (formed first (with_carry first a) (each first (replace_bit first a) (zip xs xs'))) (formed second (with_carry second b) (each second (replace_bit second b) (zip ys ys'))) (formed third (with_carry third c) (each third (replace_bit third c) (zip zs zs')))
  keeps_replaced a b c o p q xs xs' ys ys' zs zs' v e f =
      keeps_formed (Each V) VCarried (with_carry first a) (with_carry second b) (with_carry third c)
      (each first (replace_bit first a) (zip xs xs')) (each second (replace_bit second b) (zip ys ys')) (each third (replace_bit third c) (zip zs zs'))
      (keeps_each VV (replace_bit first a) (replace_bit second b) (replace_bit third c) (keeps_replace_bit a b c v) (zip xs xs') (zip ys ys') (zip zs zs') (each_zip V xs xs' ys ys' zs zs' e f))
      (λ x y z w. (v, w))

  keeps_taken_away : (ds : List A) (es : List B) (fs : List C) (a : A) (b : B) (c : C) (xs : List A) (ys : List B) (zs : List C) → Each V ds es fs → V a b c → Each V xs ys zs →
      Alike VCarried (taken_away first ds a xs) (taken_away second es b ys) (taken_away third fs c zs)
  keeps_taken_away ds es fs a b c xs ys zs d v e =
      let h = highest_of first a xs in
      let i = highest_of second b ys in
      let j = highest_of third c zs in
      let top : V h i j = highest a b c xs ys zs v e in
      let ms = moved_in first a xs in
      let ns = moved_in second b ys in
      let os = moved_in third c zs in
      let moved : Each V ms ns os = each_moved_in a b c xs ys zs v e in
      keeps_followed VCarried VCarried (compared first (zip ms ds)) (compared second (zip ns es)) (compared third (zip os fs))
      (λ difference. followed first (anded first h difference.carry) (λ both. formed first (with_carry first (either first h difference.carry both)) (each first (replace_bit first (either first h difference.carry both)) (zip ms difference.bits))))
      (λ difference. followed second (anded second i difference.carry) (λ both. formed second (with_carry second (either second i difference.carry both)) (each second (replace_bit second (either second i difference.carry both)) (zip ns difference.bits))))
      (λ difference. followed third (anded third j difference.carry) (λ both. formed third (with_carry third (either third j difference.carry both)) (each third (replace_bit third (either third j difference.carry both)) (zip os difference.bits))))
      (keeps_compared (zip ms ds) (zip ns es) (zip os fs) (each_zip V ms ds ns es os fs moved d))
      (λ x y z w. keeps_followed V VCarried (anded first h x.carry) (anded second i y.carry) (anded third j z.carry)
      (λ both. formed first (with_carry first (either first h x.carry both)) (each first (replace_bit first (either first h x.carry both)) (zip ms x.bits)))
      (λ both. formed second (with_carry second (either second i y.carry both)) (each second (replace_bit second (either second i y.carry both)) (zip ns y.bits)))
      (λ both. formed third (with_carry third (either third j z.carry both)) (each third (replace_bit third (either third j z.carry both)) (zip os z.bits)))
      (keeps_anded h x.carry i y.carry j z.carry top w.0)
      (λ k l m u. keeps_replaced (either first h x.carry k) (either second i y.carry l) (either third j z.carry m) k l m ms x.bits ns y.bits os z.bits
      (eithers h x.carry k i y.carry l j z.carry m top w.0 u) moved w.1))

  abbrev pub VDivided : Divided A → Divided B → Divided C → Type 0
  VDivided x y z = Each V x.quotient y.quotient z.quotient × Each V x.rest y.rest z.rest

  keeps_divide_bit : (ds : List A) (es : List B) (fs : List C) → Each V ds es fs → (x : Divided A) (y : Divided B) (z : Divided C) (a : A) (b : B) (c : C) → VDivided x y z → V a b c →
      Alike VDivided (divide_bit first ds x a) (divide_bit second es y b) (divide_bit third fs z c)
  keeps_divide_bit ds es fs d x y z a b c w v =
      keeps_formed VCarried VDivided (divided_by x) (divided_by y) (divided_by z) (taken_away first ds a x.rest) (taken_away second es b y.rest) (taken_away third fs c z.rest)
      (keeps_taken_away ds es fs a b c x.rest y.rest z.rest d v w.1) (λ o p q u. ((u.0, w.0), u.1))

  pub keeps_divided : (xs : List A) (ys : List B) (zs : List C) (ds : List A) (es : List B) (fs : List C) → Each V xs ys zs → Each V ds es fs → Alike VDivided (divided first xs ds) (divided second ys es) (divided third zs fs)
  keeps_divided xs ys zs ds es fs e d s t u rest h =
      let x : A = first.constant s false in
      let y : B = second.constant t false in
      let z : C = third.constant u false in
      let long = each_long V xs ys zs e in
      let zeros : Each V (replicate (length xs) x) (replicate (length ys) y) (replicate (length zs) z) =
      subst (λ (k : ℕ). Each V (replicate (length xs) x) (replicate (length ys) y) (replicate k z)) long.1 (subst (λ (k : ℕ). Each V (replicate (length xs) x) (replicate k y) (replicate k z)) long.0 (each_replicate V (length xs) x y z (constants s t u _ false h))) in
      keeps_folded VDivided V (divide_bit first ds) (divide_bit second es) (divide_bit third fs) (keeps_divide_bit ds es fs d)
      (record { quotient = []; rest = replicate (length xs) x }) (record { quotient = []; rest = replicate (length ys) y }) (record { quotient = []; rest = replicate (length zs) z })
      (reverse xs) (reverse ys) (reverse zs) (tt, zeros) (each_reverse V xs ys zs e) s t u rest h

  keeps_if : {X Y Z : Type 0} (Q : X → Y → Z → Type 0) (p q r : Bool) (c c' : Circuit first X) (d d' : Circuit second Y) (e e' : Circuit third Z) → p ≡ q → q ≡ r →
      Alike Q c d e → Alike Q c' d' e' → Alike Q (cond p c c') (cond q d d') (cond r e e')
  keeps_if {X} {Y} {Z} Q p q r c c' d d' e e' same same' yes_ no_ =
      subst (λ (b : Bool). Alike Q (cond p c c') (cond q d d') (cond b e e')) same'
      (subst (λ (b : Bool). Alike Q (cond p c c') (cond b d d') (cond b e e')) same (one p))
    where
      one : (b : Bool) → Alike Q (cond b c c') (cond b d d') (cond b e e')
      one true = yes_
      one false = no_

  keeps_count_up : (x : Carried A) (y : Carried B) (z : Carried C) (a : A) (b : B) (c : C) → VCarried x y z → V a b c → Alike VCarried (count_up first x a) (count_up second y b) (count_up third z c)
  keeps_count_up x y z a b c w v =
      keeps_formed V VCarried
      (λ (carry : A). record { carry = carry; bits = x.bits ++ first.xor a x.carry ∷ [] })
      (λ (carry : B). record { carry = carry; bits = y.bits ++ second.xor b y.carry ∷ [] })
      (λ (carry : C). record { carry = carry; bits = z.bits ++ third.xor c z.carry ∷ [] })
      (anded first a x.carry) (anded second b y.carry) (anded third c z.carry)
      (keeps_anded a x.carry b y.carry c z.carry v w.0)
      (λ o p q u. (u, each_append V x.bits _ y.bits _ z.bits _ w.1 (xors a x.carry b y.carry c z.carry v w.0, tt)))

  keeps_count_last : (x : Carried A) (y : Carried B) (z : Carried C) (a : A) (b : B) (c : C) → VCarried x y z → V a b c → Alike VCarried (count_last first x a) (count_last second y b) (count_last third z c)
  keeps_count_last x y z a b c w v s t u rest h =
      (h, (w.0, each_append V x.bits _ y.bits _ z.bits _ w.1 (xors a x.carry b y.carry c z.carry v w.0, tt)))

  abbrev pub VCounted : Counted A → Counted B → Counted C → Type 0
  VCounted x y z = (x.seen ≡ y.seen) × (y.seen ≡ z.seen) × Each V x.bits y.bits z.bits

  keeps_count_bit : (x : Counted A) (y : Counted B) (z : Counted C) (a : A) (b : B) (c : C) → VCounted x y z → V a b c → Alike VCounted (count_bit first x a) (count_bit second y b) (count_bit third z c)
  keeps_count_bit x y z a b c w v =
      let long = each_long V x.bits y.bits z.bits w.2 in
      let more : x.seen + 1 ≡ y.seen + 1 = ap (λ (k : ℕ). k + 1) w.0 in
      let more' : y.seen + 1 ≡ z.seen + 1 = ap (λ (k : ℕ). k + 1) w.1 in
      keeps_if VCounted (x.seen + 1 == 2 ^ length x.bits) (y.seen + 1 == 2 ^ length y.bits) (z.seen + 1 == 2 ^ length z.bits)
      (formed first (λ (up : Carried A). record { seen = x.seen + 1; bits = up.bits ++ up.carry ∷ [] }) (folded first (count_up first) (starting first a) x.bits))
      (formed first (λ (up : Carried A). record { seen = x.seen + 1; bits = up.bits }) (closed first (count_up first) (count_last first) (starting first a) x.bits))
      (formed second (λ (up : Carried B). record { seen = y.seen + 1; bits = up.bits ++ up.carry ∷ [] }) (folded second (count_up second) (starting second b) y.bits))
      (formed second (λ (up : Carried B). record { seen = y.seen + 1; bits = up.bits }) (closed second (count_up second) (count_last second) (starting second b) y.bits))
      (formed third (λ (up : Carried C). record { seen = z.seen + 1; bits = up.bits ++ up.carry ∷ [] }) (folded third (count_up third) (starting third c) z.bits))
      (formed third (λ (up : Carried C). record { seen = z.seen + 1; bits = up.bits }) (closed third (count_up third) (count_last third) (starting third c) z.bits))
      (ap₂ (λ (k l : ℕ). k + 1 == 2 ^ l) w.0 long.0) (ap₂ (λ (k l : ℕ). k + 1 == 2 ^ l) w.1 long.1)
      (keeps_formed VCarried VCounted (λ (up : Carried A). record { seen = x.seen + 1; bits = up.bits ++ up.carry ∷ [] }) (λ (up : Carried B). record { seen = y.seen + 1; bits = up.bits ++ up.carry ∷ [] }) (λ (up : Carried C). record { seen = z.seen + 1; bits = up.bits ++ up.carry ∷ [] })
      (folded first (count_up first) (starting first a) x.bits) (folded second (count_up second) (starting second b) y.bits) (folded third (count_up third) (starting third c) z.bits)
      (keeps_folded VCarried V (count_up first) (count_up second) (count_up third) keeps_count_up (starting first a) (starting second b) (starting third c) x.bits y.bits z.bits (v, tt) w.2)
      (λ o p q u. (more, more', each_append V o.bits (o.carry ∷ []) p.bits (p.carry ∷ []) q.bits (q.carry ∷ []) u.1 (u.0, tt))))
      (keeps_formed VCarried VCounted (λ (up : Carried A). record { seen = x.seen + 1; bits = up.bits }) (λ (up : Carried B). record { seen = y.seen + 1; bits = up.bits }) (λ (up : Carried C). record { seen = z.seen + 1; bits = up.bits })
      (closed first (count_up first) (count_last first) (starting first a) x.bits) (closed second (count_up second) (count_last second) (starting second b) y.bits) (closed third (count_up third) (count_last third) (starting third c) z.bits)
      (keeps_closed VCarried V (count_up first) (count_last first) (count_up second) (count_last second) (count_up third) (count_last third) keeps_count_up keeps_count_last (starting first a) (starting second b) (starting third c) x.bits y.bits z.bits (v, tt) w.2)
      (λ o p q u. (more, more', u.1)))

  pub keeps_counted : (xs : List A) (ys : List B) (zs : List C) → Each V xs ys zs → Alike VCounted (counted first xs) (counted second ys) (counted third zs)
  keeps_counted [] [] [] e = keeps_given VCounted (record { seen = 0; bits = [] }) (record { seen = 0; bits = [] }) (record { seen = 0; bits = [] }) (refl, refl, tt)
  keeps_counted [] [] (z ∷ zs) e = absurd e
  keeps_counted [] (y ∷ ys) [] e = absurd e
  keeps_counted [] (y ∷ ys) (z ∷ zs) e = absurd e
  keeps_counted (x ∷ xs) [] [] e = absurd e
  keeps_counted (x ∷ xs) [] (z ∷ zs) e = absurd e
  keeps_counted (x ∷ xs) (y ∷ ys) [] e = absurd e
  keeps_counted (x ∷ xs) (y ∷ ys) (z ∷ zs) e =
      keeps_folded VCounted V (count_bit first) (count_bit second) (count_bit third) keeps_count_bit
      (record { seen = 1; bits = x ∷ [] }) (record { seen = 1; bits = y ∷ [] }) (record { seen = 1; bits = z ∷ [] }) xs ys zs (refl, refl, (e.0, tt)) e.1
