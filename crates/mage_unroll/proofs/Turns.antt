-- One turn more of what is done so many times.
use Rattle.std.proofs.Common.{◌≡◌, ◌++◌, ◌∷◌, [], ℕ, suc, ℤ, pos, ◌+ℤ◌, ◌<ℤ◌, List, Ok, refl, arith}
use Rattle.std.proofs.lemmas.Int.{ints}
use Rattle.mage_lex.specs.declared.fault.LangFault.{LangFault}
use Rattle.mage_lex.specs.declared.fault.LangFault.TheVariants as faults
use Rattle.mage_instr.specs.declared.op.Op.TheVariants as op
use Rattle.mage_lex.specs.declared.token.Token.{Token}
use Rattle.mage_unroll.specs.declared.state.Variable.{Variable}
use Rattle.mage_unroll.specs.State.{State, stepped, instr_of, defined}
use Rattle.mage_constants.specs.Answer.{Fails}
use Rattle.mage_constants.specs.Ranges.{distance}
use Rattle.mage_unroll.specs.Statements.{Act, party_of, inputs, turn, turns}

pub inputs-more : (n m : ℕ) (word party : Token) (width : ℕ) (items more : List ℕ) (s begun after : State) (value : Variable) → n ≡ suc m → stepped word s ≡ Ok begun → defined word (instr_of op.Input width (0 ∷ 0 ∷ 0 ∷ []) (party_of party)) begun ≡ Ok (value, after) → more ≡ items ++ value.index ∷ [] → inputs n word party width items s ≡ inputs m word party width more after
inputs-more n m word party width items more s begun after value is step define push = rw (is, step, define, push) refl

pub distance-more : (number end : ℤ) → number <ℤ end → distance number end ≡ suc (distance (number +ℤ pos 1) end)
distance-more number end less = grind (arith, ints)

pub turns-more : (number next end : ℤ) (word name : Token) (body : Act) (s after : State) → number <ℤ end → next ≡ number +ℤ pos 1 → turn number word name body s ≡ Ok after → turns (distance number end) number word name body s ≡ turns (distance next end) next word name body after
turns-more number next end word name body s after less is done = rw (distance-more number end less, done, is) refl

pub turns-fails : (fault : LangFault) (number end : ℤ) (word name : Token) (body : Act) (s : State) → number <ℤ end → Fails fault (turn number word name body s) → Fails fault (turns (distance number end) number word name body s)
turns-fails faults.Memory number end word name body s less fails = tt
turns-fails (faults.At kind line column) number end word name body s less fails = rw (distance-more number end less, fails) refl
