use Rattle.std.proofs.Common.{[], ◌∷◌, arith}
use Rattle.call_sigs.specs.Signatures.{kind_of_letter, parameter_register}
use Rattle.call_gates.specs.Gates.{extends_parameter}
use Rattle.call_gates.proofs.Sizes.{few_parameter}
use Rattle.call_gates.proofs.Sound.{parameter_sound}
use Rattle.call_gates.proofs.Bytes.{valid_as, size_as, extended_list}
use Rattle.call_gates.proofs.parts.extend_parameter.Goals as goal

pub put-requires : goal.put-requires
put-requires c = record {
  valid = valid_as (c.in-Some.instr ∷ []) (extends_parameter (kind_of_letter c.args.letter) (parameter_register c.args.k)) (extended_list _ _ _ _ _ _ c.extension.ensures c.kind_of_letter.ensures c.parameter_register.ensures c.in-Some.is) (parameter_sound (kind_of_letter c.args.letter) c.args.k c.requires.place);
  room = let size = size_as (c.in-Some.instr ∷ []) (extends_parameter (kind_of_letter c.args.letter) (parameter_register c.args.k)) (extended_list _ _ _ _ _ _ c.extension.ensures c.kind_of_letter.ensures c.parameter_register.ensures c.in-Some.is) (parameter_sound (kind_of_letter c.args.letter) c.args.k c.requires.place) in let few = few_parameter (kind_of_letter c.args.letter) (parameter_register c.args.k) in let room = c.requires.room in omega arith;
}

pub returns-in-Some-clause-bound : goal.returns-in-Some-clause-bound
returns-in-Some-clause-bound c = let size = size_as (c.in-Some.instr ∷ []) (extends_parameter (kind_of_letter c.args.letter) (parameter_register c.args.k)) (extended_list _ _ _ _ _ _ c.extension.ensures c.kind_of_letter.ensures c.parameter_register.ensures c.in-Some.is) (parameter_sound (kind_of_letter c.args.letter) c.args.k c.requires.place) in let few = few_parameter (kind_of_letter c.args.letter) (parameter_register c.args.k) in let more = c.put.ensures.len in omega arith
