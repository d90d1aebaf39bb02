use Rattle.std.proofs.Common.{List, [], ◌∷◌, refl, ap, arith}
use Rattle.x86_forms.specs.declared.instr.Instr.{Instr}
use Rattle.call_sigs.specs.Signatures.{kind_of_letter}
use Rattle.call_gates.specs.Gates.{clears, extends_parameter}
use Rattle.call_gates.proofs.Sizes.{few_parameter}
use Rattle.call_gates.proofs.Sound.{result_register_sound, cleared_sound}
use Rattle.call_gates.proofs.Bytes.{valid_as, size_as, extended_list}
use Rattle.call_gates.proofs.parts.extend_result.Goals as goal

abbrev one : Instr → List Instr
one i = i ∷ []

pub put-requires : goal.put-requires
put-requires c = record {
  valid = valid_as (c.clear.result ∷ []) (clears 0 ∷ []) (ap one c.clear.ensures) cleared_sound;
  room = let size = size_as (c.clear.result ∷ []) (clears 0 ∷ []) (ap one c.clear.ensures) cleared_sound in let room = c.requires in omega arith;
}

pub put-requires-in-Some : goal.put-requires-in-Some
put-requires-in-Some c = record {
  valid = valid_as (c.in-Some.instr ∷ []) (extends_parameter (kind_of_letter c.args.letter) 0) (extended_list _ _ _ _ _ _ c.extension.ensures c.kind_of_letter.ensures refl c.in-Some.is) (result_register_sound (kind_of_letter c.args.letter));
  room = let size = size_as (c.in-Some.instr ∷ []) (extends_parameter (kind_of_letter c.args.letter) 0) (extended_list _ _ _ _ _ _ c.extension.ensures c.kind_of_letter.ensures refl c.in-Some.is) (result_register_sound (kind_of_letter c.args.letter)) in let few = few_parameter (kind_of_letter c.args.letter) 0 in let room = c.requires in omega arith;
}

pub returns-then-letter-eq118-clause-bound : goal.returns-then-letter-eq118-clause-bound
returns-then-letter-eq118-clause-bound c = let size = size_as (c.clear.result ∷ []) (clears 0 ∷ []) (ap one c.clear.ensures) cleared_sound in let more = c.put.ensures.len in omega arith

pub returns-in-Some-clause-bound : goal.returns-in-Some-clause-bound
returns-in-Some-clause-bound c = let size = size_as (c.in-Some.instr ∷ []) (extends_parameter (kind_of_letter c.args.letter) 0) (extended_list _ _ _ _ _ _ c.extension.ensures c.kind_of_letter.ensures refl c.in-Some.is) (result_register_sound (kind_of_letter c.args.letter)) in let few = few_parameter (kind_of_letter c.args.letter) 0 in let more = c.put-in-Some.ensures.len in omega arith
