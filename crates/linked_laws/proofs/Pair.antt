-- A pair of objects that are linked.
use Rattle.std.proofs.Common.{refl, zero, suc, [], ◌∷◌, arith}
use Rattle.std.specs.List.{All}
use Rattle.obj_file.specs.Names.{is_c_name, is_function_sig, is_data_sig, are_parameters}
use Rattle.obj_file.specs.Object.{IsObject, part_len, is_free_name, suits}
use Rattle.obj_linker.specs.Examples.{caller, legacy}
use Rattle.obj_linker.specs.Gating.{mpx_gates}
use Rattle.obj_linker.specs.Image.{image_of}
use Rattle.linked_laws.specs.Linked.{AreLinked}

caller_formed : IsObject caller
unfolding suits is_function_sig is_data_sig is_free_name is_c_name are_parameters part_len
caller_formed = record {
  file = ([], (refl, refl));
  short_file = omega arith;
  few_code = omega arith;
  few_stored = omega arith;
  few_symbols = omega arith;
  symbols = (record { part = omega arith; offset = omega arith; named = omega arith; short_name = omega arith; name = refl; signed = omega arith; short_sig = omega arith; sig = refl }, (record { part = omega arith; offset = omega arith; named = omega arith; short_name = omega arith; name = refl; signed = omega arith; short_sig = omega arith; sig = refl }, tt));
  few_fixes = omega arith;
  fixes = (record { from_part = omega arith; part = omega arith; after = omega arith; form = omega arith; within = omega arith; symbol = omega arith; addend = record { sfits = omega arith } }, (record { from_part = omega arith; part = omega arith; after = omega arith; form = omega arith; within = omega arith; symbol = omega arith; addend = record { sfits = omega arith } }, tt));
  few_places = omega arith;
  places = tt;
}

legacy_formed : IsObject legacy
unfolding suits is_function_sig is_data_sig is_free_name is_c_name are_parameters part_len
legacy_formed = record {
  file = ([], (refl, refl));
  short_file = omega arith;
  few_code = omega arith;
  few_stored = omega arith;
  few_symbols = omega arith;
  symbols = (record { part = omega arith; offset = omega arith; named = omega arith; short_name = omega arith; name = refl; signed = omega arith; short_sig = omega arith; sig = refl }, (record { part = omega arith; offset = omega arith; named = omega arith; short_name = omega arith; name = refl; signed = omega arith; short_sig = omega arith; sig = refl }, (record { part = omega arith; offset = omega arith; named = omega arith; short_name = omega arith; name = refl; signed = omega arith; short_sig = omega arith; sig = refl }, tt)));
  few_fixes = omega arith;
  fixes = (record { from_part = omega arith; part = omega arith; after = omega arith; form = omega arith; within = omega arith; symbol = omega arith; addend = record { sfits = omega arith } }, tt);
  few_places = omega arith;
  places = tt;
}

both_formed : All IsObject (caller ∷ legacy ∷ [])
both_formed zero d h = caller_formed
both_formed (suc zero) d h = legacy_formed
both_formed (suc (suc k)) d h = absurd (let no : ⊥ = omega (arith, h) in no)

pub pair_linked : AreLinked (caller ∷ legacy ∷ []) (image_of mpx_gates (caller ∷ legacy ∷ []))
pair_linked = record { objects = both_formed; image = refl }
