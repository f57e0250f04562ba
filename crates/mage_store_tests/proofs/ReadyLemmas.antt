-- Ports that were just made.
use Rattle.std.proofs.Common.{◌≡◌, sym, subst, refl, ℕ, zero, suc, [], ◌∷◌, get_or, arith}
use Rattle.std.specs.Prelude.{◌==◌}
use Rattle.std.specs.List.{list_any}
use Rattle.mage_base.specs.Store.{StoreTold}
use Rattle.mage_port.specs.Port.{PortTold, Idle, IsUnused}
use Rattle.mage_store.specs.SerialPort as serial
use Rattle.mage_store_tests.specs.Rest.{IsReady}

two_idle : (slot : ℕ) → get_or (Idle ∷ Idle ∷ []) slot Idle ≡ Idle
two_idle zero = refl
two_idle (suc zero) = refl
two_idle (suc (suc slot)) = refl

-- a serial port of two slots
pub serial_ready : {S : Type 0} (tells : S → StoreTold) (store : S) (page_bytes : ℕ) → IsReady (serial.port_told tells (serial.new_serial store 2 page_bytes)) page_bytes
serial_ready tells store page_bytes = record { rest = record { some = omega arith; idle = two_idle }; taken = refl; long = refl }

pub serial_unused : {S : Type 0} (tells : S → StoreTold) (store : S) (page_bytes : ℕ) → IsUnused (serial.port_told tells (serial.new_serial store 2 page_bytes))
serial_unused tells store page_bytes = record { idle = two_idle; empty = λ page. refl }

-- the same port, which takes three pages
pub three_taken : (port above : PortTold) (page_bytes : ℕ) → above ≡ record port { takes = λ page. list_any (λ p. p == page) (0 ∷ 1 ∷ 2 ∷ []) } → IsReady port page_bytes → IsReady above page_bytes
three_taken port above page_bytes same ready =
    let sealed : PortTold = record port { takes = λ page. list_any (λ p. p == page) (0 ∷ 1 ∷ 2 ∷ []) } in
    let rest : IsReady sealed page_bytes = record { rest = record { some = ready.rest.some; idle = ready.rest.idle }; taken = refl; long = ready.long } in
    subst (λ (p : PortTold). IsReady p page_bytes) (sym same) rest
