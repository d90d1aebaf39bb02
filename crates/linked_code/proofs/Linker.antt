-- What the linker does with the fields of code is filling them.
use Rattle.std.specs.Prelude.{map, ◌&&◌, not}
use Rattle.std.specs.List.{fold}
use Rattle.std.proofs.Common.{◌≡◌, ℕ, ◌+◌, Bool, true, false, List, [], ◌∷◌, refl, ap, ◌∙◌}
use Rattle.obj_file.specs.declared.object.Object.{Object}
use Rattle.code_emit.specs.declared.fields.Field.{Field}
use Rattle.obj_linker.specs.declared.plan.Plan.{Plan as Link}
use Rattle.obj_linker.specs.Placement.{spot_of}
use Rattle.obj_linker.specs.Fixing.{fixed, field_bytes, value_of, with_field}
use Rattle.linked_code.specs.Filled.{fix_of, filled, all_filled, seen_in}

module _ (os : List Object) (link : Link) (object : ℕ) (o : Object) (instrumented : o.legacy ≡ false) where
  abbrev fill : List ℕ → (relative : Bool) → (offset symbol : ℕ) → List ℕ
  fill bytes relative offset symbol =
      filled (spot_of link object).code (seen_in os link object true) (seen_in os link object false) bytes (fix_of record { offset = offset; symbol = symbol; relative = relative })

  one_field : (bytes : List ℕ) (relative : Bool) (offset symbol : ℕ)
      → fixed os link object o 1 bytes (fix_of record { offset = offset; symbol = symbol; relative = relative }) ≡ fill bytes relative offset symbol
  one_field bytes true offset symbol =
      let fix = fix_of record { offset = offset; symbol = symbol; relative = true } in
      ap (λ (legacy : Bool). with_field bytes offset (field_bytes 2 (value_of (seen_in os link object (not legacy && true) symbol) ((spot_of link object).code + offset) fix))) instrumented
  one_field bytes false offset symbol =
      let fix = fix_of record { offset = offset; symbol = symbol; relative = false } in
      ap (λ (legacy : Bool). with_field bytes offset (field_bytes 1 (value_of (seen_in os link object (not legacy && false) symbol) ((spot_of link object).code + offset) fix))) instrumented

  pub fields_filled : (bytes : List ℕ) (fields : List Field)
      → fold (fixed os link object o 1) bytes (map fix_of fields)
      ≡ all_filled (spot_of link object).code (seen_in os link object true) (seen_in os link object false) bytes (map fix_of fields)
  fields_filled bytes [] = refl
  fields_filled bytes (f ∷ fields) =
      ap (λ (l : List ℕ). fold (fixed os link object o 1) l (map fix_of fields)) (one_field bytes f.relative f.offset f.symbol)
      ∙ fields_filled (fill bytes f.relative f.offset f.symbol) fields
