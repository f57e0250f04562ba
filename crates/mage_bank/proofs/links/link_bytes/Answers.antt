use Rattle.std.proofs.Common.{◌≡◌, ◌-◌, ◌++◌, drop, replicate, ap, ◌∙◌}
use Rattle.std.proofs.lemmas.List.{drop-replicate}
use Rattle.mage_bank.proofs.links.link_bytes.Goals as goal

pub returns : goal.returns
returns g c =
    let rules = g.D.Driver.rules in
    let size : c.WIRE_BYTES.result ≡ g.D.Driver.rules.wire_bytes = cc (c.WIRE_BYTES.ensures, g.met.D.Driver.bytes) in
    ap (λ l. l ++ drop c.WIRE_BYTES.result (replicate 16 0)) c.pack.ensures
    ∙ ap (λ l. rules.pack c.args.wire ++ l) (drop-replicate c.WIRE_BYTES.result 16 0 ∙ ap (λ n. replicate (16 - n) 0) size)
