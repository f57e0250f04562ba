-- The text of a generated source.
use Rattle.std.specs.Prelude.{ℕ, List, [], ◌∷◌, codes}
use Rattle.std.specs.List.{concat}
use Rattle.std.specs.Fmt.{decimal}
use Rattle.mage_gen.specs.declared.order.GenOrder.{GenOrder}

-- The parts of the text, line by line: the sum over all items of the garbler's number times the evaluator's, for each
-- row. Each worker has items of its own, and worker 0 adds what all of them come to. A space stands behind each token,
-- or a line feed after `;`, `{` and `}`.
abbrev pub source_parts : GenOrder → List (List ℕ)
source_parts order =
    codes "workers " ∷ decimal order.workers ∷ codes " ;\n"
    ∷ codes "const N = " ∷ decimal order.items ∷ codes " ;\n"
    ∷ codes "const M = " ∷ decimal order.rows ∷ codes " ;\n"
    ∷ codes "array t : u32 [ M ] = lit u32 ( 0 ) ;\n"
    ∷ codes "for w in 0 .. " ∷ decimal order.workers ∷ codes " {\n"
    ∷ codes "on w {\n"
    ∷ codes "input garbler x : u32 [ N ] ;\n"
    ∷ codes "for r in 0 .. M {\n"
    ∷ codes "input evaluator a : u32 [ N ] ;\n"
    ∷ codes "let s = lit u32 ( 0 ) ;\n"
    ∷ codes "for i in 0 .. N {\n"
    ∷ codes "s = s + x [ i ] * a [ i ] ;\n"
    ∷ codes "}\n"
    ∷ codes "on 0 {\n"
    ∷ codes "move p = s ;\n"
    ∷ codes "t [ r ] = t [ r ] + p ;\n"
    ∷ codes "}\n}\n}\n}\n"
    ∷ codes "for r in 0 .. M {\n"
    ∷ codes "output t [ r ] ;\n"
    ∷ codes "}\n"
    ∷ []

-- the text
abbrev pub source_text : GenOrder → List ℕ
source_text order = concat (source_parts order)
