-- The files that a map with text keys holds.
use Rattle.std.proofs.Common.{◌≡◌, ℕ, Bool, true, false, cond, List, [], ◌∷◌, Option, Some, None, IsSome, String, Vec, BTreeMap, map, string_bytes, refl, sym, ap, ◌∙◌}
use Rattle.std.specs.Option.{option_map}
use Rattle.std.specs.Map.{lookup}
use Rattle.std.specs.BTreeMap.{is_at, get_by_text, UpdatesBy}
use Rattle.std.specs.Cmp.Lexicographic.{slice_cmp}
use Rattle.std.specs.Ordering.{nat_cmp}
use Rattle.std.specs.String.{string_cmp}
use Rattle.std.specs.Str.{bytes_eq}
use Rattle.std.proofs.lemmas.Map.Text.{is_eq-slice_cmp, btree_map_updates_text}
use mathlib.Core.Path.{fun_ext}
use Rattle.mage_base.specs.Desk.{with_file}
use Rattle.mage_base.specs.MemDesk.{files_in}

-- a choice of values, each taken to its items
option_map-cond : {Z : Type 0} (b : Bool) (x y : Option (Vec ℕ Z)) → option_map (λ bytes. bytes.items) (cond b x y) ≡ cond b (option_map (λ bytes. bytes.items) x) (option_map (λ bytes. bytes.items) y)
option_map-cond true x y = refl
option_map-cond false x y = refl

pub missing : {X : Type 0} (o : Option X) → o ≡ None → IsSome o → ⊥
missing None e h = cc
missing (Some x) e h = cc

module _ {Y Z : Type 0} where
  -- the names and bytes of a map's entries
  abbrev pub table_of : List (String Y × Vec ℕ Z) → List (List ℕ × List ℕ)
  table_of entries = map (λ file. (string_bytes file.0, file.1.items)) entries

  -- the table has the files of the map
  pub files_in_table : (entries : List (String Y × Vec ℕ Z)) (name : List ℕ) → files_in (table_of entries) name ≡ option_map (λ bytes. bytes.items) (lookup (is_at (λ k. slice_cmp nat_cmp name (string_bytes k))) entries)
  files_in_table [] name = refl
  files_in_table (e ∷ es) name =
      ap (λ found. cond (bytes_eq name (string_bytes e.0)) (Some e.1.items) found) (files_in_table es name)
      ∙ sym (option_map-cond (bytes_eq name (string_bytes e.0)) (Some e.1) _)
      ∙ ap (λ b. option_map (λ bytes. bytes.items) (cond b (Some e.1) (lookup (is_at (λ k. slice_cmp nat_cmp name (string_bytes k))) es))) (sym (is_eq-slice_cmp name (string_bytes e.0)))

  -- an update at a name puts a file in, in place of one of that name
  pub files_in_updated : (name : List ℕ) (old new : BTreeMap (String Y) (Vec ℕ Z)) (value : Vec ℕ Z) → UpdatesBy string_cmp (λ k. slice_cmp nat_cmp name (string_bytes k)) old new (Some value) → files_in (table_of new.entries) ≡ with_file (files_in (table_of old.entries)) name value.items
  files_in_updated name old new value updates =
      fun_ext (λ other.
      files_in_table new.entries other
      ∙ ap (option_map (λ bytes. bytes.items)) (btree_map_updates_text name old new (Some value) updates other)
      ∙ option_map-cond (bytes_eq name other) (Some value) (get_by_text old other)
      ∙ ap (λ found. cond (bytes_eq name other) (Some value.items) found) (sym (files_in_table old.entries other)))
