use Rattle.std.proofs.Common.{◌≡◌, ◌+◌, List, [], ◌∷◌, length, ap, ◌∙◌, arith}
use Rattle.x86_forms.specs.declared.instr.Instr.{Instr}
use Rattle.call_sigs.specs.Signatures.{signature_of, kinds_of_letters}
use Rattle.call_gates.specs.Gates.{size_of_code, bytes_of_code, outer_keeps, outer_restores, outer_head, calls, returns as bnd_ret}
use Rattle.call_gates.proofs.Sound.{outer_keeps_sound, outer_restores_sound, call_sound, returns_sound, head_sound, sound_size}
use Rattle.call_gates.proofs.Bytes.{valid_as, size_as}
use Rattle.call_gates.proofs.Made.{few_letters, head_made, outer_made}
use Rattle.call_gates.proofs.gates.outer.Goals as goal

abbrev one : Instr → List Instr
one i = i ∷ []

pub put-requires : goal.put-requires
put-requires c = record {
  valid = valid_as c.outer_keeps.result outer_keeps c.outer_keeps.ensures outer_keeps_sound;
  room = let none : length c.new-out.result.items ≡ 0 = ap length c.new-out.ensures in
      let keeps = size_as c.outer_keeps.result outer_keeps c.outer_keeps.ensures outer_keeps_sound in
      omega arith;
}

pub put-requires-3 : goal.put-requires-3
put-requires-3 c = record {
  valid = valid_as c.outer_restores.result outer_restores c.outer_restores.ensures outer_restores_sound;
  room = let none : length c.new-out.result.items ≡ 0 = ap length c.new-out.ensures in
      let keeps = size_as c.outer_keeps.result outer_keeps c.outer_keeps.ensures outer_keeps_sound in
      let few = few_letters c.as_slice.result.now c.args.sig.now.params.items c.as_slice.ensures.value c.requires.sig.few in
      let one_more = c.put.ensures.len in
      let two_more = c.extend_parameters.ensures.bound in
      let long = c.len.ensures in
      let high = c.requires.at.1 in
      let near = c.requires.inner.1 in
      let call = size_as (c.call.result ∷ []) (calls c.args.inner (c.args.at + c.len.result + 6) ∷ []) (ap one c.call.ensures) (call_sound c.args.inner (c.args.at + c.len.result + 6) (omega arith) (omega arith)) in
      let three_more = c.put-2.ensures.len in
      let back = size_as c.outer_restores.result outer_restores c.outer_restores.ensures outer_restores_sound in
      omega arith;
}

pub put-requires-4 : goal.put-requires-4
put-requires-4 c = record {
  valid = valid_as (c.give_back.result ∷ []) (bnd_ret ∷ []) (ap one c.give_back.ensures) returns_sound;
  room = let none : length c.new-out.result.items ≡ 0 = ap length c.new-out.ensures in
      let keeps = size_as c.outer_keeps.result outer_keeps c.outer_keeps.ensures outer_keeps_sound in
      let few = few_letters c.as_slice.result.now c.args.sig.now.params.items c.as_slice.ensures.value c.requires.sig.few in
      let one_more = c.put.ensures.len in
      let two_more = c.extend_parameters.ensures.bound in
      let long = c.len.ensures in
      let high = c.requires.at.1 in
      let near = c.requires.inner.1 in
      let call = size_as (c.call.result ∷ []) (calls c.args.inner (c.args.at + c.len.result + 6) ∷ []) (ap one c.call.ensures) (call_sound c.args.inner (c.args.at + c.len.result + 6) (omega arith) (omega arith)) in
      let three_more = c.put-2.ensures.len in
      let back = size_as c.outer_restores.result outer_restores c.outer_restores.ensures outer_restores_sound in
      let four_more = c.put-3.ensures.len in
      let five_more = c.outer_clears.ensures.bound in
      let last = size_as (c.give_back.result ∷ []) (bnd_ret ∷ []) (ap one c.give_back.ensures) returns_sound in
      omega arith;
}

pub extend_parameters-requires-clause-few : goal.extend_parameters-requires-clause-few
extend_parameters-requires-clause-few c = few_letters c.as_slice.result.now c.args.sig.now.params.items c.as_slice.ensures.value c.requires.sig.few

pub extend_parameters-requires-clause-room : goal.extend_parameters-requires-clause-room
extend_parameters-requires-clause-room c =
    let none : length c.new-out.result.items ≡ 0 = ap length c.new-out.ensures in
    let keeps = size_as c.outer_keeps.result outer_keeps c.outer_keeps.ensures outer_keeps_sound in
    let few = few_letters c.as_slice.result.now c.args.sig.now.params.items c.as_slice.ensures.value c.requires.sig.few in
    let one_more = c.put.ensures.len in
    omega arith

pub put-requires-2 : goal.put-requires-2
put-requires-2 c = record {
  valid = let none : length c.new-out.result.items ≡ 0 = ap length c.new-out.ensures in
      let keeps = size_as c.outer_keeps.result outer_keeps c.outer_keeps.ensures outer_keeps_sound in
      let few = few_letters c.as_slice.result.now c.args.sig.now.params.items c.as_slice.ensures.value c.requires.sig.few in
      let one_more = c.put.ensures.len in
      let two_more = c.extend_parameters.ensures.bound in
      let long = c.len.ensures in
      let high = c.requires.at.1 in
      let near = c.requires.inner.1 in
      valid_as (c.call.result ∷ []) (calls c.args.inner (c.args.at + c.len.result + 6) ∷ []) (ap one c.call.ensures) (call_sound c.args.inner (c.args.at + c.len.result + 6) (omega arith) (omega arith));
  room = let none : length c.new-out.result.items ≡ 0 = ap length c.new-out.ensures in
      let keeps = size_as c.outer_keeps.result outer_keeps c.outer_keeps.ensures outer_keeps_sound in
      let few = few_letters c.as_slice.result.now c.args.sig.now.params.items c.as_slice.ensures.value c.requires.sig.few in
      let one_more = c.put.ensures.len in
      let two_more = c.extend_parameters.ensures.bound in
      let long = c.len.ensures in
      let high = c.requires.at.1 in
      let near = c.requires.inner.1 in
      let call = size_as (c.call.result ∷ []) (calls c.args.inner (c.args.at + c.len.result + 6) ∷ []) (ap one c.call.ensures) (call_sound c.args.inner (c.args.at + c.len.result + 6) (omega arith) (omega arith)) in
      omega arith;
}

pub outer_clears-requires : goal.outer_clears-requires
outer_clears-requires c =
    let none : length c.new-out.result.items ≡ 0 = ap length c.new-out.ensures in
    let keeps = size_as c.outer_keeps.result outer_keeps c.outer_keeps.ensures outer_keeps_sound in
    let few = few_letters c.as_slice.result.now c.args.sig.now.params.items c.as_slice.ensures.value c.requires.sig.few in
    let one_more = c.put.ensures.len in
    let two_more = c.extend_parameters.ensures.bound in
    let long = c.len.ensures in
    let high = c.requires.at.1 in
    let near = c.requires.inner.1 in
    let call = size_as (c.call.result ∷ []) (calls c.args.inner (c.args.at + c.len.result + 6) ∷ []) (ap one c.call.ensures) (call_sound c.args.inner (c.args.at + c.len.result + 6) (omega arith) (omega arith)) in
    let three_more = c.put-2.ensures.len in
    let back = size_as c.outer_restores.result outer_restores c.outer_restores.ensures outer_restores_sound in
    let four_more = c.put-3.ensures.len in
    omega arith

pub returns : goal.returns
returns c =
    let sig = (signature_of c.args.sig.now.result c.args.sig.now.params.items) in
    let items : c.extend_parameters.new.out.items ≡ bytes_of_code (outer_head sig) = head_made sig _ _ _ c.outer_keeps.result (kinds_of_letters c.as_slice.result.now) c.new-out.ensures c.outer_keeps.ensures c.put.ensures.items (ap kinds_of_letters c.as_slice.ensures.value) c.extend_parameters.ensures.items in
    let size : length c.extend_parameters.new.out.items ≡ size_of_code (outer_head sig) = ap length items ∙ sound_size (outer_head sig) (head_sound sig c.requires.sig) in
    let long = c.len.ensures in
    let next : (c.args.at + c.len.result + 6) ≡ c.args.at + size_of_code (outer_head sig) + 6 = omega arith in
    outer_made sig c.args.inner c.args.at (c.args.at + c.len.result + 6) _ _ _ _ _ _ _ c.outer_keeps.result (c.call.result ∷ []) c.outer_restores.result (c.give_back.result ∷ []) (kinds_of_letters c.as_slice.result.now)
    next c.new-out.ensures c.outer_keeps.ensures c.put.ensures.items
    (ap kinds_of_letters c.as_slice.ensures.value) c.extend_parameters.ensures.items
    (ap one c.call.ensures) c.put-2.ensures.items
    c.outer_restores.ensures c.put-3.ensures.items
    c.outer_clears.ensures.items
    (ap one c.give_back.ensures) c.put-4.ensures.items
