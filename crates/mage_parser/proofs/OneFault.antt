-- Where reading stops is the first fault of the tokens, and there is only one.
use Rattle.std.proofs.Common.{◌≡◌, ◌⊎◌, inl, inr, ℕ, suc, ◌+◌, ◌-◌, ◌≤◌, ◌<◌, Bool, true, false, List, [], ◌∷◌, ◌++◌, length, refl, ap, sym, ◌∙◌, append_assoc, length-append, arith}
use Rattle.std.specs.Prelude.{Option, Result, Ok, Err, nat_lt}
use Rattle.std.specs.List.{AllByRecursion}
use Rattle.std.proofs.lemmas.List.{append-nil}
use Rattle.std.proofs.lemmas.Bool.{ltb-true, ltb-false}
use Rattle.std.proofs.lemmas.List.Elements.{All-from_recursion, recursion_from_All}
use Rattle.std.proofs.Math.Seq.{drop-append_seam}
use Rattle.mage_lex.specs.declared.token.Token.{Token}
use Rattle.mage_lex.specs.declared.fault.LangKind.{LangKind}
use Rattle.mage_lex.specs.declared.fault.LangKind.TheVariants as wrong
use Rattle.mage_parser.specs.declared.stop.Stop.{Stop}
use Rattle.mage_parser.specs.declared.stop.Stop.TheVariants as stops
use Rattle.mage_tree.specs.declared.tree.Stmt.{Stmt}
use Rattle.mage_parser.specs.Reads.{Fails}
use Rattle.mage_tree.specs.Sources.{MOST_DEPTH, IsSource}
use Rattle.mage_parser.specs.Statements.{source_at}
use Rattle.mage_tree.specs.Laws.{IsFront, Breaks}
use Rattle.mage_tree.specs.Depth.{Nesting, outermost, open_at, behind, depths_from, depths}
use Rattle.mage_parser.specs.Faults.{last_of, fault_of}
use Rattle.mage_tree.specs.FirstFault.{fault_at, IsWithin, StandsBehind, IsFirstFault, IsFirstFaultOf, IsThisOrMemory, HasDepthOfRoom, HasSource, HasOneAnswer}
use Rattle.mage_parser.proofs.SoundStatements.{source_sound}
use Rattle.mage_parser.proofs.FullStatements.{source_full}
use Rattle.mage_parser.proofs.OneTree.{one_tree}
use Rattle.mage_parser.proofs.Machine.{workers, run}
use Rattle.mage_parser.proofs.Follow.{GoesOn}
use Rattle.mage_parser.proofs.FollowStatements.{source_follows}
use Rattle.mage_parser.proofs.FirstWrong.{first_wrong, reached}
use Rattle.mage_parser.proofs.Nested.{nested, Shallow, Meets}
use Rattle.mage_parser.proofs.NestedStatements.{nothing_left, Anyhow, m_source}

-- what is open, as depths
shallow_recursion : (limit : ℕ) (tokens : List Token) (s : Nesting) → Shallow limit s tokens → AllByRecursion (λ depth. depth ≤ limit) (depths_from s tokens)
unfolding depths_from
shallow_recursion limit [] s h = tt
shallow_recursion limit (token ∷ tokens) s h = (h.0, shallow_recursion limit tokens (behind s token.kind) h.1)

recursion_shallow : (limit : ℕ) (tokens : List Token) (s : Nesting) → AllByRecursion (λ depth. depth ≤ limit) (depths_from s tokens) → Shallow limit s tokens
unfolding depths_from
recursion_shallow limit [] s h = tt
recursion_shallow limit (token ∷ tokens) s h = (h.0, recursion_shallow limit tokens (behind s token.kind) h.1)

within_shallow : (limit : ℕ) (tokens : List Token) → Shallow limit outermost tokens → IsWithin limit tokens
within_shallow limit tokens h = All-from_recursion (λ depth. depth ≤ limit) (depths tokens) (shallow_recursion limit tokens outermost h)

shallow_within : (limit : ℕ) (tokens : List Token) → IsWithin limit tokens → Shallow limit outermost tokens
shallow_within limit tokens h = recursion_shallow limit tokens outermost (recursion_from_All (λ depth. depth ≤ limit) (depths tokens) h)

depths_more : (front : List Token) (token : Token) (s : Nesting) → depths_from s (front ++ token ∷ []) ≡ depths_from s front ++ length (open_at (nested s front) token.kind) ∷ []
unfolding depths_from
depths_more [] token s = refl
depths_more (first ∷ front) token s = ap (λ l. length (open_at s first.kind) ∷ l) (depths_more front token (behind s first.kind))

-- the depth at a token of a list
shallow_front : (limit : ℕ) (front more : List Token) (s : Nesting) → Shallow limit s (front ++ more) → Shallow limit s front
shallow_front limit [] more s h = tt
shallow_front limit (token ∷ front) more s h = (h.0, shallow_front limit front more (behind s token.kind) h.1)

shallow_there : (limit : ℕ) (front : List Token) (token : Token) (more : List Token) (s : Nesting) → Shallow limit s (front ++ token ∷ more) → length (open_at (nested s front) token.kind) ≤ limit
shallow_there limit [] token more s h = h.0
shallow_there limit (first ∷ front) token more s h = shallow_there limit front token more (behind s first.kind) h.1

last_same : (xs : List ℕ) (a b : ℕ) → xs ++ a ∷ [] ≡ xs ++ b ∷ [] → a ≡ b
last_same [] a b e = cc
last_same (x ∷ xs) a b e = last_same xs a b (cc)

deep_there : (front : List Token) (token : Token) → depths (front ++ token ∷ []) ≡ depths front ++ suc MOST_DEPTH ∷ [] → length (open_at (nested outermost front) token.kind) ≡ suc MOST_DEPTH
deep_there front token e = last_same (depths front) (length (open_at (nested outermost front) token.kind)) (suc MOST_DEPTH) (sym (depths_more front token outermost) ∙ e)

-- two ways to cut a list
same_cut : (a b c d : List Token) → a ++ b ≡ c ++ d → length b ≡ length d → (a ≡ c) × (b ≡ d)
same_cut [] b [] d e h = (refl, e)
same_cut [] b (y ∷ c) d e h = absurd (let k = ap length e in omega (arith, k, h, length-append c d))
same_cut (x ∷ a) b [] d e h = absurd (let k = ap length e in omega (arith, k, h, length-append a b))
same_cut (x ∷ a) b (y ∷ c) d e h =
    let first : x ≡ y = cc e in
    let rest : a ++ b ≡ c ++ d = cc e in
    let r = same_cut a b c d rest h in
    (ap (λ z. z ∷ a) first ∙ ap (λ l. y ∷ l) r.0, r.1)

longer : (a b c d : List Token) → a ++ b ≡ c ++ d → length d ≤ length b → (more : List Token) × (c ≡ a ++ more)
longer [] b c d e h = (c, refl)
longer (x ∷ a) b [] d e h = absurd (let k = ap length e in omega (arith, k, h, length-append a b))
longer (x ∷ a) b (y ∷ c) d e h =
    let first : x ≡ y = cc e in
    let rest : a ++ b ≡ c ++ d = cc e in
    let r = longer a b c d rest h in
    (r.0, ap (λ l. y ∷ l) r.1 ∙ ap (λ z. z ∷ (a ++ r.0)) (sym first))

-- a front of a front is one
shorter_front : (front more : List Token) → IsFront (front ++ more) → IsFront front
shorter_front front more f = (more ++ f.0, f.1, f.2, f.3, (rw (← append_assoc front more f.0) f.4))

source_front : (depth : ℕ) (count : Option Token) (body : List Stmt) (front back : List Token) → IsSource depth count body (front ++ back) → IsFront front
source_front depth count body front back s = (back, depth, count, body, s)

along : (front : List Token) (token : Token) (rest : List Token) → front ++ token ∷ rest ≡ (front ++ token ∷ []) ++ rest
along front token rest = sym (append_assoc front (token ∷ []) rest)

-- a source breaks nowhere
no_break : (front back : List Token) (depth : ℕ) (count : Option Token) (body : List Stmt) → IsSource depth count body (front ++ back) → Breaks front back → ⊥
no_break front [] depth count body s b = b depth count body (rw (append-nil front) at s)
no_break front (token ∷ rest) depth count body s b = b (source_front depth count body (front ++ token ∷ []) rest (rw (along front token rest) at s))

-- where reading stops by a wrong token
syntax_first : (room : ℕ) (tokens : List Token) (left : ℕ) → source_at room tokens ≡ Err (stops.Syntax left) →
    (front : List Token) × (back : List Token) × (tokens ≡ front ++ back) × (length back ≡ left) × IsFront front × IsWithin room front × Breaks front back
syntax_first room tokens left e =
    let w = first_wrong room tokens left e in
    let m : Meets room outermost tokens (Err (stops.Syntax left)) (nothing_left {A = Option Token × List Stmt}) Anyhow = rw e at (m_source room tokens) in
    let cut = same_cut w.0 w.1 m.2.front m.0 (sym w.2 ∙ m.2.whole) (w.3 ∙ sym m.3) in
    (w.0, w.1, w.2, w.3, w.4, (within_shallow room w.0 (rw (sym cut.0) at m.2.shallow)), w.5)

-- where it stops by a token that is too deep
record Deep (room : ℕ) (tokens : List Token) (left : ℕ) : Type 0 where
  front : List Token
  token : Token
  rest : List Token
  whole : tokens ≡ front ++ token ∷ rest
  count : length (token ∷ rest) ≡ left
  goes_on : IsFront (front ++ token ∷ [])
  within : IsWithin room front
  depth : depths (front ++ token ∷ []) ≡ depths front ++ suc room ∷ []

-- up to that token some source goes on
deep_front : (tokens front : List Token) (token : Token) (rest : List Token) (left : ℕ) → tokens ≡ front ++ token ∷ rest → length (token ∷ rest) ≡ left →
    GoesOn (run tokens (workers ∷ [])) left → IsFront (front ++ token ∷ [])
deep_front tokens front token rest left whole count goes =
    let r = reached tokens left (omega (arith, count)) goes in
    let split : (front ++ token ∷ []) ++ rest ≡ r.0 ++ r.1 = sym (along front token rest) ∙ sym whole ∙ r.2 in
    let more = longer (front ++ token ∷ []) rest r.0 r.1 split (omega (arith, count, r.3)) in
    shorter_front (front ++ token ∷ []) more.0 (rw more.1 at r.4)

depth_there : (room : ℕ) (front : List Token) (token : Token) (t : Nesting) → nested outermost front ≡ t → length (open_at t token.kind) ≡ suc room → depths (front ++ token ∷ []) ≡ depths front ++ suc room ∷ []
depth_there room front token t e h =
    depths_more front token outermost ∙ ap (λ n. depths front ++ n ∷ []) (ap (λ u. length (open_at u token.kind)) e ∙ h)

deep_first : (room : ℕ) (tokens : List Token) (left : ℕ) → source_at room tokens ≡ Err (stops.TooDeep left) → Deep room tokens left
deep_first room tokens left e =
    let m : Meets room outermost tokens (Err (stops.TooDeep left)) (nothing_left {A = Option Token × List Stmt}) Anyhow = rw e at (m_source room tokens) in
    record {
      front = m.3.front;
      token = m.0;
      rest = m.1;
      whole = m.3.whole;
      count = m.4;
      goes_on = deep_front tokens m.3.front m.0 m.1 left m.3.whole m.4 (rw e at (source_follows room tokens));
      within = within_shallow room m.3.front m.3.shallow;
      depth = depth_there room m.3.front m.0 m.2 m.3.comes m.5;
    }

-- where a source was read, none of its tokens is too deep
read_within : (room : ℕ) (tokens : List Token) (count : Option Token) (body : List Stmt) → source_at room tokens ≡ Ok (count, body) → IsWithin room tokens
read_within room tokens count body e =
    let m : Meets {A = Option Token × List Stmt} room outermost tokens (Ok (count, body)) nothing_left Anyhow = rw e at (m_source room tokens) in
    let all : tokens ≡ m.1.front = m.1.whole ∙ append-nil m.1.front in
    within_shallow room tokens (rw (sym all) at m.1.shallow)

-- at an earlier fault no source goes on within the depth
earlier : (kind : LangKind) (front : List Token) (token : Token) (rest more : List Token) → StandsBehind kind front (token ∷ rest) → IsFront ((front ++ token ∷ []) ++ more) → IsWithin MOST_DEPTH ((front ++ token ∷ []) ++ more) → ⊥
earlier wrong.Syntax front token rest more s f w = s.2 (shorter_front (front ++ token ∷ []) more f)
earlier wrong.TooDeep front token rest more s f w =
    let deep : length (open_at (nested outermost front) token.kind) ≡ suc MOST_DEPTH = deep_there front token s.2 in
    let shallow : Shallow MOST_DEPTH outermost (front ++ token ∷ more) = rw (sym (along front token more)) at (shallow_within MOST_DEPTH ((front ++ token ∷ []) ++ more) w) in
    omega (arith, deep, shallow_there MOST_DEPTH front token more outermost shallow)
earlier wrong.BadByte front token rest more s f w = s
earlier wrong.BadNumber front token rest more s f w = s
earlier wrong.TooLong front token rest more s f w = s
earlier wrong.UnknownName front token rest more s f w = s
earlier wrong.Duplicate front token rest more s f w = s
earlier wrong.WidthDiffers front token rest more s f w = s
earlier wrong.WorkerDiffers front token rest more s f w = s
earlier wrong.IndexOut front token rest more s f w = s
earlier wrong.ConstFault front token rest more s f w = s
earlier wrong.BadWidth front token rest more s f w = s
earlier wrong.BadWorker front token rest more s f w = s

-- what stands before a fault
before_fault : (kind : LangKind) (front back : List Token) → StandsBehind kind front back → IsFront front × IsWithin MOST_DEPTH front
before_fault wrong.Syntax front back s = (s.0, s.1)
before_fault wrong.TooDeep front [] s = absurd s
before_fault wrong.TooDeep front (token ∷ rest) s = (shorter_front front (token ∷ []) s.0, s.1)
before_fault wrong.BadByte front back s = absurd s
before_fault wrong.BadNumber front back s = absurd s
before_fault wrong.TooLong front back s = absurd s
before_fault wrong.UnknownName front back s = absurd s
before_fault wrong.Duplicate front back s = absurd s
before_fault wrong.WidthDiffers front back s = absurd s
before_fault wrong.WorkerDiffers front back s = absurd s
before_fault wrong.IndexOut front back s = absurd s
before_fault wrong.ConstFault front back s = absurd s
before_fault wrong.BadWidth front back s = absurd s
before_fault wrong.BadWorker front back s = absurd s

-- no fault stands earlier than another
not_earlier : (tokens : List Token) (kind other : LangKind) (front back front2 back2 : List Token) → tokens ≡ front ++ back → tokens ≡ front2 ++ back2 →
    StandsBehind kind front back → StandsBehind other front2 back2 → length back2 < length back → ⊥
not_earlier tokens kind other front [] front2 back2 e e2 s s2 h = omega arith
not_earlier tokens kind other front (token ∷ rest) front2 back2 e e2 s s2 h =
    let split : (front ++ token ∷ []) ++ rest ≡ front2 ++ back2 = sym (along front token rest) ∙ sym e ∙ e2 in
    let more = longer (front ++ token ∷ []) rest front2 back2 split (omega arith) in
    let b = before_fault other front2 back2 s2 in
    earlier kind front token rest more.0 s (rw more.1 at b.0) (rw more.1 at b.1)

same_length : (a b : ℕ) → (a < b → ⊥) → (b < a → ⊥) → a ≡ b
same_length a b f g = go (nat_lt a b) (nat_lt b a) refl refl
  where
    go : (x y : Bool) → nat_lt a b ≡ x → nat_lt b a ≡ y → a ≡ b
    go true y e d = absurd (f (ltb-true a b e))
    go false true e d = absurd (g (ltb-true b a d))
    go false false e d = let k = ltb-false a b e in let l = ltb-false b a d in omega (arith, k, l)

-- two faults stand at one place
one_place : (tokens : List Token) (kind other : LangKind) (back back2 : List Token) (f : IsFirstFault kind tokens back) (g : IsFirstFault other tokens back2) → (f.0 ≡ g.0) × (back ≡ back2)
one_place tokens kind other back back2 f g =
    let n : length back ≡ length back2 = same_length (length back) (length back2) (λ h. not_earlier tokens other kind g.0 back2 f.0 back g.1 f.1 g.2 f.2 h) (λ h. not_earlier tokens kind other f.0 back g.0 back2 f.1 g.1 f.2 g.2 h) in
    same_cut f.0 back g.0 back2 (sym f.1 ∙ g.1) n

-- and there a wrong token isn't too deep
apart : (front back : List Token) → StandsBehind wrong.Syntax front back → StandsBehind wrong.TooDeep front back → ⊥
apart front [] s d = d
apart front (token ∷ rest) s d = s.2 d.0

-- what reading finds
syntax_found : (tokens : List Token) (left : ℕ) → source_at MOST_DEPTH tokens ≡ Err (stops.Syntax left) → (back : List Token) × (length back ≡ left) × IsFirstFault wrong.Syntax tokens back
syntax_found tokens left e = let s = syntax_first MOST_DEPTH tokens left e in (s.1, s.3, (s.0, s.2, (s.4, s.5, s.6)))

deep_found : (tokens : List Token) (left : ℕ) → source_at MOST_DEPTH tokens ≡ Err (stops.TooDeep left) → (back : List Token) × (length back ≡ left) × IsFirstFault wrong.TooDeep tokens back
deep_found tokens left e = let d = deep_first MOST_DEPTH tokens left e in (d.token ∷ d.rest, d.count, (d.front, d.whole, (d.goes_on, d.within, d.depth)))

count_less : (a b : ℕ) → (a + b) - b ≡ a
count_less a b = omega arith

-- the tokens that are left
last_is : (tokens front back : List Token) (left : ℕ) → tokens ≡ front ++ back → length back ≡ left → last_of tokens left ≡ back
last_is tokens front back left e h =
    let n : length tokens - left ≡ length front = (let k = ap length e in omega (arith, k, h, length-append front back)) in
    rw (n, e) (drop-append_seam front back)

found_at : (text : List ℕ) (tokens : List Token) (kind : LangKind) (back : List Token) → IsFirstFault kind tokens back → IsFirstFaultOf text tokens (fault_at kind text back)
found_at text tokens kind [] f = ([], f, refl)
found_at text tokens kind (token ∷ rest) f = (token ∷ rest, f, refl)

-- reading needs no memory in the definitions
pub no_memory : (tokens : List Token) → source_at MOST_DEPTH tokens ≡ Err stops.Memory → ⊥
no_memory tokens e = rw e at (m_source MOST_DEPTH tokens)

-- where reading stops is the first fault
pub fault_found : (text : List ℕ) (tokens : List Token) (stop : Stop) → source_at MOST_DEPTH tokens ≡ Err stop →
    (kind : LangKind) × (back : List Token) × IsFirstFault kind tokens back × (fault_of text tokens stop ≡ fault_at kind text back)
fault_found text tokens (stops.Syntax left) e =
    let s = syntax_found tokens left e in (wrong.Syntax, s.0, s.2, (rw (last_is tokens s.2.0 s.0 left s.2.1 s.1) refl))
fault_found text tokens (stops.TooDeep left) e =
    let s = deep_found tokens left e in (wrong.TooDeep, s.0, s.2, (rw (last_is tokens s.2.0 s.0 left s.2.1 s.1) refl))
fault_found text tokens stops.Memory e = absurd (no_memory tokens e)

pub stands : (text : List ℕ) (tokens : List Token) (stop : Stop) → Fails stop (source_at MOST_DEPTH tokens) → IsFirstFaultOf text tokens (fault_of text tokens stop)
stands text tokens stops.Memory f = tt
stands text tokens (stops.Syntax left) f = let s = fault_found text tokens (stops.Syntax left) f in rw s.3 (found_at text tokens s.0 s.1 s.2)
stands text tokens (stops.TooDeep left) f = let s = fault_found text tokens (stops.TooDeep left) f in rw s.3 (found_at text tokens s.0 s.1 s.2)

this_one : (text : List ℕ) (kind : LangKind) (back : List Token) → IsThisOrMemory (fault_at kind text back) (fault_at kind text back)
this_one text kind [] = refl
this_one text kind (token ∷ rest) = refl

-- a fault where a token is wrong is that
syntax_only : (kind : LangKind) (front back : List Token) → StandsBehind kind front back → StandsBehind wrong.Syntax front back → kind ≡ wrong.Syntax
syntax_only wrong.Syntax front back s d = refl
syntax_only wrong.TooDeep front back s d = absurd (apart front back d s)
syntax_only wrong.BadByte front back s d = absurd s
syntax_only wrong.BadNumber front back s d = absurd s
syntax_only wrong.TooLong front back s d = absurd s
syntax_only wrong.UnknownName front back s d = absurd s
syntax_only wrong.Duplicate front back s d = absurd s
syntax_only wrong.WidthDiffers front back s d = absurd s
syntax_only wrong.WorkerDiffers front back s d = absurd s
syntax_only wrong.IndexOut front back s d = absurd s
syntax_only wrong.ConstFault front back s d = absurd s
syntax_only wrong.BadWidth front back s d = absurd s
syntax_only wrong.BadWorker front back s d = absurd s

deep_only : (kind : LangKind) (front back : List Token) → StandsBehind kind front back → StandsBehind wrong.TooDeep front back → kind ≡ wrong.TooDeep
deep_only wrong.TooDeep front back s d = refl
deep_only wrong.Syntax front back s d = absurd (apart front back s d)
deep_only wrong.BadByte front back s d = absurd s
deep_only wrong.BadNumber front back s d = absurd s
deep_only wrong.TooLong front back s d = absurd s
deep_only wrong.UnknownName front back s d = absurd s
deep_only wrong.Duplicate front back s d = absurd s
deep_only wrong.WidthDiffers front back s d = absurd s
deep_only wrong.WorkerDiffers front back s d = absurd s
deep_only wrong.IndexOut front back s d = absurd s
deep_only wrong.ConstFault front back s d = absurd s
deep_only wrong.BadWidth front back s d = absurd s
deep_only wrong.BadWorker front back s d = absurd s

moved : (kind : LangKind) (front back front2 back2 : List Token) → front ≡ front2 → back ≡ back2 → StandsBehind kind front back → StandsBehind kind front2 back2
moved kind front back front2 back2 e d s = rw (sym e, sym d) s

-- the first fault is what reading finds
pub same_fault : (text : List ℕ) (tokens : List Token) (stop : Stop) (kind : LangKind) (back : List Token) → source_at MOST_DEPTH tokens ≡ Err stop → IsFirstFault kind tokens back →
    fault_at kind text back ≡ fault_of text tokens stop
same_fault text tokens (stops.Syntax left) kind back f g =
    let s = syntax_found tokens left f in
    let one = one_place tokens kind wrong.Syntax back s.0 g s.2 in
    let same : kind ≡ wrong.Syntax = syntax_only kind s.2.0 s.0 (moved kind g.0 back s.2.0 s.0 one.0 one.1 g.2) s.2.2 in
    rw (same, one.1, last_is tokens s.2.0 s.0 left s.2.1 s.1) refl
same_fault text tokens (stops.TooDeep left) kind back f g =
    let s = deep_found tokens left f in
    let one = one_place tokens kind wrong.TooDeep back s.0 g s.2 in
    let same : kind ≡ wrong.TooDeep = deep_only kind s.2.0 s.0 (moved kind g.0 back s.2.0 s.0 one.0 one.1 g.2) s.2.2 in
    rw (same, one.1, last_is tokens s.2.0 s.0 left s.2.1 s.1) refl
same_fault text tokens stops.Memory kind back f g = absurd (no_memory tokens f)

pub answers : (text : List ℕ) (tokens : List Token) (stop : Stop) (kind : LangKind) (back : List Token) → Fails stop (source_at MOST_DEPTH tokens) → IsFirstFault kind tokens back →
    IsThisOrMemory (fault_at kind text back) (fault_of text tokens stop)
answers text tokens stops.Memory kind back f g = tt
answers text tokens (stops.Syntax left) kind back f g = rw (← same_fault text tokens (stops.Syntax left) kind back f g) (this_one text kind back)
answers text tokens (stops.TooDeep left) kind back f g = rw (← same_fault text tokens (stops.TooDeep left) kind back f g) (this_one text kind back)

-- a source within the depth has no fault
no_fault_in : (kind : LangKind) (front back : List Token) (count : Option Token) (body : List Stmt) → IsSource MOST_DEPTH count body (front ++ back) → IsWithin MOST_DEPTH (front ++ back) → StandsBehind kind front back → ⊥
no_fault_in kind front (token ∷ rest) count body s w f =
    earlier kind front token rest rest f (source_front MOST_DEPTH count body ((front ++ token ∷ []) ++ rest) [] (rw (append-nil ((front ++ token ∷ []) ++ rest)) (rw (along front token rest) at s))) (rw (along front token rest) at w)
no_fault_in wrong.Syntax front [] count body s w f = no_break front [] MOST_DEPTH count body s f.2
no_fault_in wrong.TooDeep front [] count body s w f = f
no_fault_in wrong.BadByte front [] count body s w f = f
no_fault_in wrong.BadNumber front [] count body s w f = f
no_fault_in wrong.TooLong front [] count body s w f = f
no_fault_in wrong.UnknownName front [] count body s w f = f
no_fault_in wrong.Duplicate front [] count body s w f = f
no_fault_in wrong.WidthDiffers front [] count body s w f = f
no_fault_in wrong.WorkerDiffers front [] count body s w f = f
no_fault_in wrong.IndexOut front [] count body s w f = f
no_fault_in wrong.ConstFault front [] count body s w f = f
no_fault_in wrong.BadWidth front [] count body s w f = f
no_fault_in wrong.BadWorker front [] count body s w f = f

pub no_fault : (tokens : List Token) (count : Option Token) (body : List Stmt) (kind : LangKind) (back : List Token) → source_at MOST_DEPTH tokens ≡ Ok (count, body) → IsFirstFault kind tokens back → ⊥
no_fault tokens count body kind back e f =
    let s : IsSource MOST_DEPTH count body tokens = rw e at (source_sound MOST_DEPTH tokens) in
    no_fault_in kind f.0 back count body (rw f.1 at s) (rw f.1 at (read_within MOST_DEPTH tokens count body e)) f.2

-- the room of the grammar is the greatest depth
pub depth_of_room : (tokens : List Token) → HasDepthOfRoom tokens
depth_of_room tokens room count body = ((λ s. read_within room tokens count body (source_full s)), (λ other s w. go other s w (source_at room tokens) refl))
  where
    go : (other : ℕ) → IsSource other count body tokens → IsWithin room tokens → (read : Result (Option Token × List Stmt) Stop) → source_at room tokens ≡ read → IsSource room count body tokens
    go other s w (Ok x) e =
        let t : IsSource room x.0 x.1 tokens = rw e at (source_sound room tokens) in
        let same = one_tree tokens room other x.0 count x.1 body t s in
        rw (sym same.0, sym same.1) t
    go other s w (Err (stops.Syntax left)) e =
        let f = syntax_first room tokens left e in absurd (no_break f.0 f.1 other count body (rw f.2 at s) f.6)
    go other s w (Err (stops.TooDeep left)) e =
        let d = deep_first room tokens left e in
        let deep : length (open_at (nested outermost d.front) d.token.kind) ≡ suc room = last_same (depths d.front) _ (suc room) (sym (depths_more d.front d.token outermost) ∙ d.depth) in
        let shallow : Shallow room outermost (d.front ++ d.token ∷ d.rest) = rw d.whole at (shallow_within room tokens w) in
        absurd (omega (arith, deep, shallow_there room d.front d.token d.rest outermost shallow))
    go other s w (Err stops.Memory) e = absurd (rw e at (m_source room tokens))

same_kind : (kind other : LangKind) (front back : List Token) → StandsBehind kind front back → StandsBehind other front back → kind ≡ other
same_kind kind wrong.Syntax front back s d = syntax_only kind front back s d
same_kind kind wrong.TooDeep front back s d = deep_only kind front back s d
same_kind kind wrong.BadByte front back s d = absurd d
same_kind kind wrong.BadNumber front back s d = absurd d
same_kind kind wrong.TooLong front back s d = absurd d
same_kind kind wrong.UnknownName front back s d = absurd d
same_kind kind wrong.Duplicate front back s d = absurd d
same_kind kind wrong.WidthDiffers front back s d = absurd d
same_kind kind wrong.WorkerDiffers front back s d = absurd d
same_kind kind wrong.IndexOut front back s d = absurd d
same_kind kind wrong.ConstFault front back s d = absurd d
same_kind kind wrong.BadWidth front back s d = absurd d
same_kind kind wrong.BadWorker front back s d = absurd d

answer_of : (tokens : List Token) (read : Result (Option Token × List Stmt) Stop) → source_at MOST_DEPTH tokens ≡ read → HasSource tokens ⊎ ((kind : LangKind) × (back : List Token) × IsFirstFault kind tokens back)
answer_of tokens (Ok x) e = inl (x.0, x.1, (rw e at (source_sound MOST_DEPTH tokens)))
answer_of tokens (Err (stops.Syntax left)) e = let f = syntax_found tokens left e in inr (wrong.Syntax, f.0, f.2)
answer_of tokens (Err (stops.TooDeep left)) e = let f = deep_found tokens left e in inr (wrong.TooDeep, f.0, f.2)
answer_of tokens (Err stops.Memory) e = absurd (rw e at (m_source MOST_DEPTH tokens))

-- some tokens have a source or one first fault
pub one_answer : (tokens : List Token) → HasOneAnswer tokens
one_answer tokens = record {
  some = answer_of tokens (source_at MOST_DEPTH tokens) refl;
  apart = λ kind back s f. no_fault tokens s.0 s.1 kind back (source_full s.2) f;
  one = λ kind other back other_back f g.
      let place = one_place tokens kind other back other_back f g in
      (same_kind kind other g.0 other_back (moved kind f.0 back g.0 other_back place.0 place.1 f.2) g.2, place.1);
}
