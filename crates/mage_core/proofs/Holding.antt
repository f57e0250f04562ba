-- Drivers and stores go into machines, and come back.
use Rattle.std.proofs.Common.{◌≡◌, ◌≤◌, ◌<◌, ◌+◌, ◌++◌, ℕ, zero, suc, List, [], ◌∷◌, length, map, take, drop, set, get_or, Option, None, Some, slice_get, refl, sym, ap, ap₂, ◌∙◌, subst, arith, append_assoc, length-append}
use Rattle.std.proofs.lemmas.List.{reverse-append, map-append, take-set, take_more_set, drop-set, length-set, take_all, append-nil}
use Rattle.std.proofs.lemmas.List.Elements.{All-cons, All-append, All-take}
use Rattle.std.specs.Prelude.{Vec, reverse, IfSome}
use Rattle.std.specs.Vec.{vec_len, vec_capacity}
use Rattle.std.specs.List.{All}
use Rattle.std.specs.Global.{Global}
use Rattle.mage_core.specs.Ports.{RunMachine, store_of}
use Rattle.mage_core.specs.Made.{shelves, IsEmptied, Hold}

-- a list in front of another, whose last goes to the front of the other
last_over : {A : Type 0} (xs ys : List A) (x : A) → (xs ++ x ∷ []) ++ ys ≡ xs ++ x ∷ ys
last_over xs ys x = append_assoc xs (x ∷ []) ys

reverse_last : {M A : Type 0} (f : M → A) (ms : List M) (m : M) → reverse (map f (ms ++ m ∷ [])) ≡ f m ∷ reverse (map f ms)
reverse_last f ms m = ap reverse (map-append f ms (m ∷ [])) ∙ reverse-append (map f ms) (f m ∷ [])

drop_suc : {A : Type 0} (xs : List A) (k : ℕ) (r : A) → k < length xs → drop k xs ≡ get_or xs k r ∷ drop (suc k) xs
drop_suc [] zero r h = absurd (omega arith)
drop_suc [] (suc k) r h = absurd (omega arith)
drop_suc (x ∷ xs) zero r h = refl
drop_suc (x ∷ xs) (suc k) r h = drop_suc xs k r (omega arith)

drop_more : {A : Type 0} (xs : List A) (k : ℕ) (r : A) → k < length xs → drop k xs ≡ get_or xs k r ∷ drop (k + 1) xs
drop_more xs k r h = drop_suc xs k r h ∙ ap (λ n. get_or xs k r ∷ drop n xs) (let one : suc k ≡ k + 1 = omega arith in one)

take_suc : {A : Type 0} (xs : List A) (k : ℕ) (r : A) → k < length xs → take (suc k) xs ≡ take k xs ++ get_or xs k r ∷ []
take_suc [] zero r h = absurd (omega arith)
take_suc [] (suc k) r h = absurd (omega arith)
take_suc (x ∷ xs) zero r h = refl
take_suc (x ∷ xs) (suc k) r h = ap (λ l. x ∷ l) (take_suc xs k r (omega arith))

take_more : {A : Type 0} (xs : List A) (k : ℕ) (r : A) → k < length xs → take (k + 1) xs ≡ take k xs ++ get_or xs k r ∷ []
take_more xs k r h = ap (λ n. take n xs) (let one : k + 1 ≡ suc k = omega arith in one) ∙ take_suc xs k r h

-- what changes at place k is behind it
behind_suc : {A : Type 0} (xs : List A) (k : ℕ) (y : A) → drop (suc k) (set xs k y) ≡ drop (suc k) xs
behind_suc [] zero y = refl
behind_suc [] (suc k) y = refl
behind_suc (x ∷ xs) zero y = refl
behind_suc (x ∷ xs) (suc k) y = behind_suc xs k y

behind_set : {A : Type 0} (xs : List A) (k : ℕ) (y : A) → drop (k + 1) (set xs k y) ≡ drop (k + 1) xs
behind_set xs k y = let one : k + 1 ≡ suc k = omega arith in ap (λ n. drop n (set xs k y)) one ∙ behind_suc xs k y ∙ ap (λ n. drop n xs) (sym one)

pub all_tail : {A : Type 0} (P : A → Type 0) (x : A) (xs : List A) → All P (x ∷ xs) → All P xs
all_tail P x xs all k d h = all (suc k) d (omega (arith, h))

pub all_head : {A : Type 0} (P : A → Type 0) (x : A) (xs : List A) → All P (x ∷ xs) → P x
all_head P x xs all = all 0 x (omega arith)

pub all_none : {A : Type 0} (P : A → Type 0) → All P []
all_none P k d h = absurd (omega (arith, h))

-- the shelves up to one more
shelves_more : {S : Type 0} (xs : List (Vec S Global)) (k : ℕ) (r : Vec S Global) → k < length xs →
    shelves (take (k + 1) xs) ≡ shelves (take k xs) ++ (get_or xs k r).items ∷ []
shelves_more {S} xs k r h = ap shelves (take_more xs k r h) ∙ map-append (λ (v : Vec S Global). v.items) (take k xs) (get_or xs k r ∷ [])

drop_whole : {A : Type 0} (xs : List A) (k : ℕ) → length xs ≤ k → drop k xs ≡ []
drop_whole [] zero h = refl
drop_whole [] (suc k) h = refl
drop_whole (x ∷ xs) zero h = absurd (omega arith)
drop_whole (x ∷ xs) (suc k) h = drop_whole xs k (omega arith)

module _ {D S : Type 0} where
  abbrev driver_at : RunMachine D S → D
  driver_at machine = machine.driver

  abbrev stores_at : RunMachine D S → List S
  stores_at machine = store_of machine ∷ []

  -- a machine is made of the last driver and the store on its shelf
  pub holds_more : (ds' : List D) (driver : D) (xs : List (Vec S Global)) (ms : List (RunMachine D S)) (all_d : List D) (all_s : List (List S))
      (r x : Vec S Global) (m : RunMachine D S) → Hold (ds' ++ driver ∷ []) xs ms all_d all_s → m.driver ≡ driver →
      (get_or xs (length ds') r).items ≡ store_of m ∷ [] → IsEmptied x → Hold ds' (set xs (length ds') x) (ms ++ m ∷ []) all_d all_s
  holds_more ds' driver xs ms all_d all_s r x m h is store emptied =
      let k = length ds' in
      let long : length (ds' ++ driver ∷ []) ≡ k + 1 = length-append ds' (driver ∷ []) in
      let more : length (ms ++ m ∷ []) ≡ length ms + 1 = length-append ms (m ∷ []) in
      let count : length xs ≡ (k + 1) + length ms = h.count ∙ ap (λ n. n + length ms) long in
      let within : k < length xs = omega (arith, count) in
      record {
        count = length-set xs k x ∙ omega (arith, count, more);
        drivers_are = ap (λ l. ds' ++ l) (reverse_last driver_at ms m ∙ ap (λ d. d ∷ reverse (map driver_at ms)) is)
            ∙ sym (last_over ds' (reverse (map driver_at ms)) driver) ∙ h.drivers_are;
        stores_are = ap₂ (λ (a b : List (List S)). a ++ b) (ap shelves (take-set xs k x)) (reverse_last stores_at ms m)
            ∙ ap (λ s. shelves (take k xs) ++ s ∷ reverse (map stores_at ms)) (sym store)
            ∙ sym (last_over (shelves (take k xs)) (reverse (map stores_at ms)) (get_or xs k r).items)
            ∙ ap (λ l. l ++ reverse (map stores_at ms)) (sym (shelves_more xs k r within))
            ∙ ap (λ n. shelves (take n xs) ++ reverse (map stores_at ms)) (sym long) ∙ h.stores_are;
        emptied = subst (All IsEmptied) (sym (drop-set xs k x within))
            (All-cons IsEmptied x (drop (k + 1) xs) emptied (subst (λ n. All IsEmptied (drop n xs)) long h.emptied));
      }

  -- no machine was made, and the store came back
  pub holds_still : (ds' : List D) (driver : D) (xs : List (Vec S Global)) (ms : List (RunMachine D S)) (all_d : List D) (all_s : List (List S))
      (r x : Vec S Global) → Hold (ds' ++ driver ∷ []) xs ms all_d all_s →
      x.items ≡ (get_or xs (length ds') r).items → Hold (ds' ++ driver ∷ []) (set xs (length ds') x) ms all_d all_s
  holds_still ds' driver xs ms all_d all_s r x h same =
      let k = length ds' in
      let long : length (ds' ++ driver ∷ []) ≡ k + 1 = length-append ds' (driver ∷ []) in
      let count : length xs ≡ (k + 1) + length ms = h.count ∙ ap (λ n. n + length ms) long in
      let within : k < length xs = omega (arith, count) in
      let taken : shelves (take (k + 1) (set xs k x)) ≡ shelves (take (k + 1) xs) =
      ap shelves (take_more_set xs k x within) ∙ map-append (λ (v : Vec S Global). v.items) (take k xs) (x ∷ [])
      ∙ ap (λ s. shelves (take k xs) ++ s ∷ []) same ∙ sym (shelves_more xs k r within) in
      record {
        count = length-set xs k x ∙ h.count;
        drivers_are = h.drivers_are;
        stores_are = ap (λ n. shelves (take n (set xs k x)) ++ reverse (map stores_at ms)) long
            ∙ ap (λ l. l ++ reverse (map stores_at ms)) taken
            ∙ ap (λ n. shelves (take n xs) ++ reverse (map stores_at ms)) (sym long) ∙ h.stores_are;
        emptied = subst (λ n. All IsEmptied (drop n (set xs k x))) (sym long)
            (subst (All IsEmptied) (sym (behind_set xs k x)) (subst (λ n. All IsEmptied (drop n xs)) long h.emptied));
      }

  -- a machine is taken apart
  pub holds_less : (ds : List D) (xs : List (Vec S Global)) (ms' : List (RunMachine D S)) (m : RunMachine D S) (all_d : List D) (all_s : List (List S))
      (x : Vec S Global) → Hold ds xs (ms' ++ m ∷ []) all_d all_s → x.items ≡ store_of m ∷ [] →
      Hold (ds ++ m.driver ∷ []) (set xs (length ds) x) ms' all_d all_s
  holds_less ds xs ms' m all_d all_s x h is =
      let k = length ds in
      let long : length (ds ++ m.driver ∷ []) ≡ k + 1 = length-append ds (m.driver ∷ []) in
      let more : length (ms' ++ m ∷ []) ≡ length ms' + 1 = length-append ms' (m ∷ []) in
      let counted = h.count in
      let within : k < length xs = omega (arith, counted, more) in
      record {
        count = length-set xs k x ∙ omega (arith, counted, more, long);
        drivers_are = last_over ds (reverse (map driver_at ms')) m.driver
            ∙ ap (λ l. ds ++ l) (sym (reverse_last driver_at ms' m)) ∙ h.drivers_are;
        stores_are = ap (λ n. shelves (take n (set xs k x)) ++ reverse (map stores_at ms')) long
            ∙ ap (λ l. shelves l ++ reverse (map stores_at ms')) (take_more_set xs k x within)
            ∙ ap (λ l. l ++ reverse (map stores_at ms')) (map-append (λ (v : Vec S Global). v.items) (take k xs) (x ∷ []))
            ∙ last_over (shelves (take k xs)) (reverse (map stores_at ms')) x.items
            ∙ ap (λ s. shelves (take k xs) ++ s ∷ reverse (map stores_at ms')) is
            ∙ ap (λ l. shelves (take k xs) ++ l) (sym (reverse_last stores_at ms' m)) ∙ h.stores_are;
        emptied = subst (λ n. All IsEmptied (drop n (set xs k x))) (sym long)
            (subst (All IsEmptied) (sym (behind_set xs k x)) (rest_emptied within h.emptied));
      }
    where
      rest_emptied : length ds < length xs → All IsEmptied (drop (length ds) xs) → All IsEmptied (drop (length ds + 1) xs)
      rest_emptied within all = all_tail IsEmptied (get_or xs (length ds) x) (drop (length ds + 1) xs) (subst (All IsEmptied) (drop_more xs (length ds) x within) all)

  -- nothing is held
  pub holds_none : (ds : List D) (xs : List (Vec S Global)) → length xs ≡ length ds → Hold ds xs [] ds (shelves xs)
  holds_none ds xs long = record {
    count = omega (arith, long);
    drivers_are = append-nil ds;
    stores_are = append-nil (shelves (take (length ds) xs)) ∙ ap shelves (take_all (length ds) xs (omega (arith, long)));
    emptied = subst (All IsEmptied) (sym (drop_whole xs (length ds) (omega (arith, long)))) (all_none IsEmptied);
  }

  -- machines hold what isn't in the lists
  pub holds_given : (ds : List D) (xs : List (Vec S Global)) (ms : List (RunMachine D S)) → length xs ≡ length ds + length ms → All IsEmptied (drop (length ds) xs) →
      Hold ds xs ms (ds ++ reverse (map driver_at ms)) (shelves (take (length ds) xs) ++ reverse (map stores_at ms))
  holds_given ds xs ms count emptied = record {
    count = count;
    drivers_are = refl;
    stores_are = refl;
    emptied = emptied;
  }

  -- ---- the same, by what each call leaves

  pub more_so : (ds ds' : List D) (driver : D) (xs : List (Vec S Global)) (k : ℕ) (ms ms2 : List (RunMachine D S)) (m : RunMachine D S) (x x2 : Vec S Global)
      (all_d : List D) (all_s : List (List S)) → Hold ds xs ms all_d all_s → ds ≡ ds' ++ driver ∷ [] → k ≡ length ds' → x ≡ get_or xs k x → m.driver ≡ driver →
      x.items ≡ store_of m ∷ [] → IsEmptied x2 → ms2 ≡ ms ++ m ∷ [] → Hold ds' (set xs k x2) ms2 all_d all_s
  more_so ds ds' driver xs k ms ms2 m x x2 all_d all_s h front at found is store emptied ends =
      subst (λ (l : List (RunMachine D S)). Hold ds' (set xs k x2) l all_d all_s) (sym ends)
      (subst (λ n. Hold ds' (set xs n x2) (ms ++ m ∷ []) all_d all_s) (sym at)
      (holds_more ds' driver xs ms all_d all_s x x2 m (subst (λ (l : List D). Hold l xs ms all_d all_s) front h) is
      (ap (λ (v : Vec S Global). v.items) (ap (λ n. get_or xs n x) (sym at) ∙ sym found) ∙ store) emptied))

  pub still_so : (ds ds' ds2 : List D) (driver back : D) (xs : List (Vec S Global)) (k : ℕ) (ms : List (RunMachine D S)) (x x2 : Vec S Global)
      (all_d : List D) (all_s : List (List S)) → Hold ds xs ms all_d all_s → ds ≡ ds' ++ driver ∷ [] → ds2 ≡ ds' ++ back ∷ [] → back ≡ driver → k ≡ length ds' →
      x ≡ get_or xs k x → x2.items ≡ x.items → Hold ds2 (set xs k x2) ms all_d all_s
  still_so ds ds' ds2 driver back xs k ms x x2 all_d all_s h front ends same at found items =
      subst (λ (l : List D). Hold l (set xs k x2) ms all_d all_s) (sym (ends ∙ ap (λ d. ds' ++ d ∷ []) same))
      (subst (λ n. Hold (ds' ++ driver ∷ []) (set xs n x2) ms all_d all_s) (sym at)
      (holds_still ds' driver xs ms all_d all_s x x2 (subst (λ (l : List D). Hold l xs ms all_d all_s) front h)
      (items ∙ ap (λ (v : Vec S Global). v.items) (found ∙ ap (λ n. get_or xs n x) at))))

  pub less_so : (ds ds2 : List D) (xs : List (Vec S Global)) (k : ℕ) (ms ms' : List (RunMachine D S)) (m : RunMachine D S) (driver : D) (store : S) (x x2 : Vec S Global)
      (all_d : List D) (all_s : List (List S)) → Hold ds xs ms all_d all_s → ms ≡ ms' ++ m ∷ [] → k ≡ length ds → ds2 ≡ ds ++ driver ∷ [] → driver ≡ m.driver →
      x.items ≡ [] → x2.items ≡ x.items ++ store ∷ [] → store ≡ store_of m → Hold ds2 (set xs k x2) ms' all_d all_s
  less_so ds ds2 xs k ms ms' m driver store x x2 all_d all_s h front at ends same empty filled is =
      subst (λ (l : List D). Hold l (set xs k x2) ms' all_d all_s) (sym (ends ∙ ap (λ d. ds ++ d ∷ []) same))
      (subst (λ n. Hold (ds ++ m.driver ∷ []) (set xs n x2) ms' all_d all_s) (sym at)
      (holds_less ds xs ms' m all_d all_s x2 (subst (λ (l : List (RunMachine D S)). Hold ds xs l all_d all_s) front h)
      (filled ∙ ap (λ (l : List S). l ++ store ∷ []) empty ∙ ap (λ s. s ∷ []) is)))

  -- the shelf of the next machine to be taken apart is empty
  pub next_shelf : (ds : List D) (xs : List (Vec S Global)) (k : ℕ) (ms ms' : List (RunMachine D S)) (m : RunMachine D S) (x : Vec S Global)
      (all_d : List D) (all_s : List (List S)) → Hold ds xs ms all_d all_s → ms ≡ ms' ++ m ∷ [] → k ≡ length ds → x ≡ get_or xs k x → IsEmptied x
  next_shelf ds xs k ms ms' m x all_d all_s h front at found =
      let more : length (ms' ++ m ∷ []) ≡ length ms' + 1 = length-append ms' (m ∷ []) in
      let long : length ms ≡ length (ms' ++ m ∷ []) = ap length front in
      let counted = h.count in
      let within : length ds < length xs = omega (arith, counted, more, long) in
      subst IsEmptied (ap (λ n. get_or xs n x) (sym at) ∙ sym found)
      (all_head IsEmptied (get_or xs (length ds) x) (drop (length ds + 1) xs) (subst (All IsEmptied) (drop_more xs (length ds) x within) h.emptied))

-- an emptied shelf has room
pub has_room : {S : Type 0} (x : Vec S Global) → IsEmptied x → vec_len x < vec_capacity x
has_room x h =
    let none : vec_len x ≡ 0 = x.ok.0 ∙ ap length h.empty in
    let some = h.room in omega (arith, none, some)

nothing_there : {P V : Type 0} (o : Option P) (k : ℕ) (y : V) (w : ℕ) (Q : P → V → Type 0) → IfSome o (λ p. IfSome (slice_get (set [] (suc k) y) (suc w)) (Q p))
nothing_there None k y w Q = tt
nothing_there (Some p) k y w Q = tt

-- what is known of the workers that are left
pub suits_front : {P V : Type 0} (front : List P) (last : P) (xs : List V) (y : V) (Q : P → V → Type 0) →
    ((w : ℕ) → IfSome (slice_get (front ++ last ∷ []) w) (λ p. IfSome (slice_get xs w) (Q p))) →
    (w : ℕ) → IfSome (slice_get front w) (λ p. IfSome (slice_get (set xs (length front) y) w) (Q p))
suits_front [] last xs y Q h zero = tt
suits_front [] last xs y Q h (suc w) = tt
suits_front (p ∷ front) last [] y Q h zero = tt
suits_front (p ∷ front) last [] y Q h (suc w) = nothing_there (slice_get front w) (length front) y w Q
suits_front (p ∷ front) last (x ∷ xs) y Q h zero = h zero
suits_front (p ∷ front) last (x ∷ xs) y Q h (suc w) = suits_front front last xs y Q (λ v. h (suc v)) w

pub suits_so : {P V : Type 0} (ps ps' : List P) (last : P) (xs : List V) (k : ℕ) (y : V) (Q : P → V → Type 0) → ps ≡ ps' ++ last ∷ [] → k ≡ length ps' →
    ((w : ℕ) → IfSome (slice_get ps w) (λ p. IfSome (slice_get xs w) (Q p))) →
    (w : ℕ) → IfSome (slice_get ps' w) (λ p. IfSome (slice_get (set xs k y) w) (Q p))
suits_so {P} ps ps' last xs k y Q front at h w =
    subst (λ n. IfSome (slice_get ps' w) (λ p. IfSome (slice_get (set xs n y) w) (Q p))) (sym at)
    (suits_front ps' last xs y Q (subst (λ (l : List P). (v : ℕ) → IfSome (slice_get l v) (λ p. IfSome (slice_get xs v) (Q p))) front h) w)

-- one part more has its machine
pub parts_so : {M P : Type 0} (f : M → P) (ps ps' all : List P) (part : P) (ms ms2 : List M) (m : M) → ps ++ reverse (map f ms) ≡ all → ps ≡ ps' ++ part ∷ [] →
    f m ≡ part → ms2 ≡ ms ++ m ∷ [] → ps' ++ reverse (map f ms2) ≡ all
parts_so f ps ps' all part ms ms2 m h front is ends =
    ap (λ l. ps' ++ reverse (map f l)) ends ∙ ap (λ l. ps' ++ l) (reverse_last f ms m) ∙ ap (λ p. ps' ++ p ∷ reverse (map f ms)) is
    ∙ sym (last_over ps' (reverse (map f ms)) part) ∙ ap (λ l. l ++ reverse (map f ms)) (sym front) ∙ h

pub all_more : {A : Type 0} (P : A → Type 0) (xs ys : List A) (x : A) → All P xs → P x → ys ≡ xs ++ x ∷ [] → All P ys
all_more P xs ys x all new is = subst (All P) (sym is) (All-append P xs (x ∷ []) all (All-cons P x [] new (all_none P)))

pub all_front : {A : Type 0} (P : A → Type 0) (xs ys : List A) (n : ℕ) → All P xs → ys ≡ take n xs → All P ys
all_front P xs ys n all is = subst (All P) (sym is) (All-take P n xs all)
