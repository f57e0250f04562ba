-- The piece at the place, and the tokens of what follows it.
use Rattle.std.proofs.Common.{arith}
use Rattle.std.proofs.lemmas.Result.{err_from_is_err_and}
use Rattle.mage_lex.specs.Tokens.{size_of}
use Rattle.mage_lex.proofs.TokenLemmas.{piece_step}
use Rattle.mage_lex.proofs.lexer.read_piece.Goals as goal
use Rattle.std.proofs.Common.{refl}

pub returns-in_err-size-clause-fault : goal.returns-in_err-size-clause-fault
returns-in_err-size-clause-fault c =
    let piece = c.in_ok-piece.ensures in
    let left = err_from_is_err_and c.from_residual-in_err-size.result c.from_residual-in_err-size.ensures.1 in
    let step = piece_step c.args.text.now c.args.place (size_of c.in_ok-piece.piece) c.in_ok-piece.piece c.requires.place c.requires.within piece.piece refl piece.size.0 in
    rw (left.1, left.2, step) (c.in_err-size.ensures.fault _)

pub returns-clause-tokens : goal.returns-clause-tokens
returns-clause-tokens c =
    let piece = c.in_ok-piece.ensures in
    let taken = c.in_ok-size.ensures in
    let step = piece_step c.args.text.now c.args.place c.in_ok-size.size c.in_ok-piece.piece c.requires.place c.requires.within piece.piece taken.size (omega (arith, taken.size, piece.size.0)) in
    rw (c.moved.ensures.start, step) (taken.tokens _)
