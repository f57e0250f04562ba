-- A plain walk goes beside another in which pages have other names.
use Rattle.std.proofs.Common.{◌≡◌, ◌≢◌, ◌⊎◌, inl, inr, ℕ, Bool, true, false, cond, List, [], ◌∷◌, Option, None, Some, IsSomeAnd, length, set, ltb, refl, sym, ◌∙◌, ap, subst}
use Rattle.std.specs.Prelude.{slice_get, nat_eq}
use Rattle.std.proofs.lemmas.Bool.{cases_eq, eq-eqb, ne_eqb}
use Rattle.mage_instr.specs.declared.instr.Instr.{Instr}
use Rattle.mage_instr.specs.declared.replaced.Job.{Job}
use Rattle.mage_instr.specs.declared.replaced.Replaced.{Replaced}
use Rattle.mage_instr.specs.declared.replaced.Replaced.TheVariants as entry
use Rattle.mage_carry.specs.State.{Content, nothing, Slot, State, got}
use Rattle.mage_carry.specs.Steps.{◌>>=◌, provided, do_job}
use Rattle.mage_carry.specs.Carrying.{start}
use Rattle.mage_carry.proofs.Chains.{none_not_some, some_not_none, same_Some}
use Rattle.mage_residency.specs.Plain.{load, save, entry_done, all_done}
use Rattle.mage_sched.specs.Renamed.{unless_it, saved_to, IsRenamed, has_after, AreRenamed}
use Rattle.mage_residency.specs.Renamed.{NamesDontMatter}
use Rattle.mage_residency.proofs.Beside.{beside, job_beside}

-- each store page has what its page has
abbrev HaveAlike : (has : ℕ → Option ℕ) → (pages homes : ℕ → Option Content) → Type 0
HaveAlike has pages homes = (home page : ℕ) → has home ≡ Some page → homes home ≡ pages page

record AreAlike (has : ℕ → Option ℕ) (s r : State) : Type 0 where
  frames : r.frames ≡ s.frames
  next : r.next ≡ s.next
  pages : HaveAlike has s.pages r.pages

-- both steps came to states that are alike, or neither to any
abbrev Both : (has : ℕ → Option ℕ) → Option State → Option State → Type 0
Both has (Some s) (Some r) = AreAlike has s r
Both has None None = Unit {0}
Both has (Some s) None = ⊥
Both has None (Some r) = ⊥

-- both walks ended at the same instruction, or neither ended
abbrev EndAlike : Option State → Option State → Type 0
EndAlike (Some s) (Some r) = r.next ≡ s.next
EndAlike None None = Unit {0}
EndAlike (Some s) None = ⊥
EndAlike None (Some r) = ⊥

not_it : (page q : ℕ) (o : Option ℕ) → unless_it page o ≡ Some q → (o ≡ Some q) × (page ≢ q)
not_it page q None h = absurd (none_not_some q h)
not_it page q (Some other) h = go (nat_eq page other) refl h where
  go : (b : Bool) → nat_eq page other ≡ b → cond b None (Some other) ≡ Some q → (Some other ≡ Some q) × (page ≢ q)
  go true e h = absurd (none_not_some q h)
  go false e h =
      let same : other ≡ q = same_some other q h in
      (h, λ f. differ (eq-eqb page other (f ∙ sym same)) e)
    where
      same_some : (a b : ℕ) → ◌≡◌ {A = Option ℕ} (Some a) (Some b) → a ≡ b
      same_some a b h = same_Some a b h

      differ : nat_eq page other ≡ true → nat_eq page other ≡ false → ⊥
      differ a b = cc

saved_alike : (has : ℕ → Option ℕ) (pages homes : ℕ → Option Content) (page home : ℕ) (content : Content) → HaveAlike has pages homes → HaveAlike (saved_to home page has) (got page content pages) (got home content homes)
saved_alike has pages homes page home content alike x q h = ⊎_by (cases_eq home x) where
  ⊎_by : (home ≡ x) ⊎ (home ≢ x) → got home content homes x ≡ got page content pages q
  ⊎_by (inl e) =
      let saved : ◌≡◌ {A = Option ℕ} (Some page) (Some q) = rw (eq-eqb home x e) at h in
      rw (eq-eqb home x e, eq-eqb page q (same_Some page q saved)) refl
  ⊎_by (inr ne) =
      let old : unless_it page (has x) ≡ Some q = rw (ne_eqb home x ne) at h in
      let both = not_it page q (has x) old in
      rw (ne_eqb home x ne, ne_eqb page q both.1) (alike x q both.0)

-- A state with these frames, slots, pages and instruction that is next, beside one with other slots and pages.
module _ (frames : List Content) (next : ℕ) (slots others : List Slot) (pages homes : ℕ → Option Content) (has : ℕ → Option ℕ) (alike : HaveAlike has pages homes) where
  abbrev here : State
  here = record { frames = frames; slots = slots; pages = pages; next = next }

  abbrev there : State
  there = record { frames = frames; slots = others; pages = homes; next = next }

  both_fresh : (f p q : ℕ) (b : Bool) → Both has (provided b (record { frames = set frames f nothing; slots = slots; pages = pages; next = next })) (provided b (record { frames = set frames f nothing; slots = others; pages = homes; next = next }))
  both_fresh f p q true = record { frames = refl; next = refl; pages = alike }
  both_fresh f p q false = tt

  both_load : (f : ℕ) (o : Option Content) (b : Bool)
      → Both has (o >>= (λ content. provided b (record { frames = set frames f content; slots = slots; pages = pages; next = next }))) (o >>= (λ content. provided b (record { frames = set frames f content; slots = others; pages = homes; next = next })))
  both_load f None b = tt
  both_load f (Some content) true = record { frames = refl; next = refl; pages = alike }
  both_load f (Some content) false = tt

  both_save : (page home : ℕ) (o : Option Content)
      → Both (saved_to home page has) (o >>= (λ content. Some (record { frames = frames; slots = slots; pages = got page content pages; next = next }))) (o >>= (λ content. Some (record { frames = frames; slots = others; pages = got home content homes; next = next })))
  both_save page home None = tt
  both_save page home (Some content) = record { frames = refl; next = refl; pages = saved_alike has pages homes page home content alike }

  both_do : (wires : ℕ) (instrs : List Instr) (job : Job) → Both has (do_job instrs wires job here) (do_job instrs wires job there)
  both_do wires instrs job = go (do_job instrs wires job here) (do_job instrs wires job there) refl refl where
    go : (a b : Option State) → do_job instrs wires job here ≡ a → do_job instrs wires job there ≡ b → Both has a b
    go None None e f = tt
    go (Some s) (Some r) e f =
        let besides = job_beside wires instrs job there here s e in
        let same : beside there s ≡ r = same_Some (beside there s) r (sym besides.0 ∙ f) in
        let back = job_beside wires instrs job here there r f in
        record {
          frames = ap (λ (x : State). x.frames) (sym same);
          next = ap (λ (x : State). x.next) (sym same);
          pages = λ home page h. ap (λ (x : ℕ → Option Content). x home) back.1 ∙ alike home page h ∙ ap (λ (x : ℕ → Option Content). x page) (sym besides.1);
        }
    go (Some s) None e f = absurd (some_not_none (beside there s) (sym (job_beside wires instrs job there here s e).0 ∙ f))
    go None (Some r) e f = absurd (some_not_none (beside here r) (sym (job_beside wires instrs job here there r f).0 ∙ e))

  -- one entry beside another
  both_entries : (wires : ℕ) (instrs : List Instr) (one other : Replaced) → IsRenamed has one other → Both (has_after one other has) (entry_done instrs wires here one) (entry_done instrs wires there other)
  both_entries wires instrs (entry.Fresh f p) (entry.Fresh g q) h = subst (λ n. Both has (entry_done instrs wires here (entry.Fresh f p)) (entry_done instrs wires there (entry.Fresh n q))) h (both_fresh f p q (ltb f (length frames)))
  both_entries wires instrs (entry.Load f p) (entry.Load g home) h =
      subst (λ n. Both has (load f p here) (load n home there)) h.0
      (subst (λ o. Both has (load f p here) (o >>= (λ content. provided (ltb f (length frames)) (record { frames = set frames f content; slots = others; pages = homes; next = next })))) (sym (alike home p h.1)) (both_load f (pages p) (ltb f (length frames))))
  both_entries wires instrs (entry.Save f p) (entry.Save g home) h = subst (λ n. Both (saved_to home p has) (save f p here) (save n home there)) h (both_save p home (slice_get frames f))
  both_entries wires instrs (entry.Do job) (entry.Do other) h = subst (λ j. Both has (do_job instrs wires job here) (do_job instrs wires j there)) h (both_do wires instrs job)
  both_entries wires instrs (entry.Fresh f p) (entry.Load g q) h = absurd h
  both_entries wires instrs (entry.Fresh f p) (entry.Save g q) h = absurd h
  both_entries wires instrs (entry.Fresh f p) (entry.Do job) h = absurd h
  both_entries wires instrs (entry.Load f p) (entry.Fresh g q) h = absurd h
  both_entries wires instrs (entry.Load f p) (entry.Save g q) h = absurd h
  both_entries wires instrs (entry.Load f p) (entry.Do job) h = absurd h
  both_entries wires instrs (entry.Save f p) (entry.Fresh g q) h = absurd h
  both_entries wires instrs (entry.Save f p) (entry.Load g q) h = absurd h
  both_entries wires instrs (entry.Save f p) (entry.Do job) h = absurd h
  both_entries wires instrs (entry.Do job) (entry.Fresh g q) h = absurd h
  both_entries wires instrs (entry.Do job) (entry.Load g q) h = absurd h
  both_entries wires instrs (entry.Do job) (entry.Save g q) h = absurd h

module _ (wires : ℕ) (instrs : List Instr) where
  -- one entry, from states that are alike
  both_done : (has : ℕ → Option ℕ) (s r : State) (one other : Replaced) → AreAlike has s r → IsRenamed has one other → Both (has_after one other has) (entry_done instrs wires s one) (entry_done instrs wires r other)
  both_done has s r one other alike renamed =
      let same : beside r s ≡ r = ap (λ xs. record { frames = xs; slots = r.slots; pages = r.pages; next = s.next }) (sym alike.frames) ∙ ap (λ n. record { frames = r.frames; slots = r.slots; pages = r.pages; next = n }) (sym alike.next) in
      subst (λ x. Both (has_after one other has) (entry_done instrs wires s one) (entry_done instrs wires x other)) same
      (both_entries s.frames s.next s.slots r.slots s.pages r.pages has alike.pages wires instrs one other renamed)

  walks_alike : (list others : List Replaced) (has : ℕ → Option ℕ) (s r : State) → AreRenamed has list others → AreAlike has s r → EndAlike (all_done instrs wires s list) (all_done instrs wires r others)
  walks_alike [] [] has s r renamed alike = alike.next
  walks_alike [] (other ∷ others) has s r renamed alike = absurd renamed
  walks_alike (one ∷ list) [] has s r renamed alike = absurd renamed
  walks_alike (one ∷ list) (other ∷ others) has s r renamed alike =
      go (λ a b. walks_alike list others (has_after one other has) a b renamed.1) (entry_done instrs wires s one) (entry_done instrs wires r other) (both_done has s r one other alike renamed.0)
    where
      go : ((a b : State) → AreAlike (has_after one other has) a b → EndAlike (all_done instrs wires a list) (all_done instrs wires b others)) → (x y : Option State) → Both (has_after one other has) x y
          → EndAlike (x >>= (λ a. all_done instrs wires a list)) (y >>= (λ b. all_done instrs wires b others))
      go rest (Some a) (Some b) both = rest a b both
      go rest None None both = tt
      go rest (Some a) None both = absurd both
      go rest None (Some b) both = absurd both

ends_forth : (x y : Option State) (n : ℕ) → EndAlike x y → IsSomeAnd x (λ end. end.next ≡ n) → IsSomeAnd y (λ end. end.next ≡ n)
ends_forth (Some s) (Some r) n alike h = alike ∙ h
ends_forth None y n alike h = absurd h
ends_forth (Some s) None n alike h = absurd alike

ends_back : (x y : Option State) (n : ℕ) → EndAlike x y → IsSomeAnd y (λ end. end.next ≡ n) → IsSomeAnd x (λ end. end.next ≡ n)
ends_back (Some s) (Some r) n alike h = sym alike ∙ h
ends_back x None n alike h = absurd h
ends_back None (Some r) n alike h = absurd alike

pub names_dont_matter : NamesDontMatter
names_dont_matter frames wires instrs list others renamed = (ends_forth _ _ (length instrs) alike, ends_back _ _ (length instrs) alike) where
  alike : EndAlike (all_done instrs wires (start frames 0) list) (all_done instrs wires (start frames 0) others)
  alike = walks_alike wires instrs list others (λ home. None) (start frames 0) (start frames 0) renamed (record { frames = refl; next = refl; pages = λ home page h. absurd (none_not_some page h) })
