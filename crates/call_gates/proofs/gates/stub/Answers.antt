use Rattle.std.proofs.Common.{◌≡◌, ◌+◌, ◌++◌, ℕ, List, [], ◌∷◌, length, ap, ◌∙◌, arith}
use Rattle.x86_forms.specs.declared.instr.Instr.{Instr}
use Rattle.call_sigs.specs.Signatures.{signature_of}
use Rattle.call_gates.specs.Gates.{stub_keeps, stub_body_size, jumps, returns as bnd_ret}
use Rattle.call_gates.proofs.Sound.{keeps_sound, jump_sound, returns_sound, body_sound, stub_clears_sound}
use Rattle.call_gates.proofs.Bytes.{valid_as, size_as, body_size}
use Rattle.call_gates.proofs.Made.{stub_made}
use Rattle.call_gates.proofs.gates.stub.Goals as goal

abbrev one : Instr → List Instr
one i = i ∷ []

pub put-requires : goal.put-requires
put-requires c = record {
  valid = let bound = c.stub_body-body.ensures.bound in
      let high = c.requires.at.1 in
      let long = c.len.ensures in
      valid_as c.stub_keeps.result (stub_keeps (c.args.at + 38 + c.len.result + 6)) c.stub_keeps.ensures (keeps_sound (c.args.at + 38 + c.len.result + 6) (omega arith));
  room = let bound = c.stub_body-body.ensures.bound in
      let high = c.requires.at.1 in
      let long = c.len.ensures in
      let none : length c.new-out.result.items ≡ 0 = ap length c.new-out.ensures in
      let keeps = size_as c.stub_keeps.result (stub_keeps (c.args.at + 38 + c.len.result + 6)) c.stub_keeps.ensures (keeps_sound (c.args.at + 38 + c.len.result + 6) (omega arith)) in
      omega arith;
}

pub put-requires-2 : goal.put-requires-2
put-requires-2 c = record {
  valid = let bound = c.stub_body-body.ensures.bound in
      let high = c.requires.at.1 in
      let far = c.requires.target.1 in
      let long = c.len.ensures in
      valid_as (c.jump.result ∷ []) (jumps c.args.target (c.args.at + 38 + c.len.result + 6) ∷ []) (ap one c.jump.ensures) (jump_sound c.args.target (c.args.at + 38 + c.len.result + 6) far (omega arith));
  room = let bound = c.stub_body-body.ensures.bound in
      let high = c.requires.at.1 in
      let far = c.requires.target.1 in
      let long = c.len.ensures in
      let none : length c.new-out.result.items ≡ 0 = ap length c.new-out.ensures in
      let keeps = size_as c.stub_keeps.result (stub_keeps (c.args.at + 38 + c.len.result + 6)) c.stub_keeps.ensures (keeps_sound (c.args.at + 38 + c.len.result + 6) (omega arith)) in
      let one_more = c.put.ensures.len in
      let body : length c.as_slice.result.now ≡ length c.stub_body-body.result.items = ap length c.as_slice.ensures.value in
      let two_more = c.append.ensures.len in
      let hop = size_as (c.jump.result ∷ []) (jumps c.args.target (c.args.at + 38 + c.len.result + 6) ∷ []) (ap one c.jump.ensures) (jump_sound c.args.target (c.args.at + 38 + c.len.result + 6) far (omega arith)) in
      omega arith;
}

pub put-requires-3 : goal.put-requires-3
put-requires-3 c = record {
  valid = valid_as (c.give_back.result ∷ []) (bnd_ret ∷ []) (ap one c.give_back.ensures) returns_sound;
  room = let bound = c.stub_body-body.ensures.bound in
      let high = c.requires.at.1 in
      let far = c.requires.target.1 in
      let long = c.len.ensures in
      let none : length c.new-out.result.items ≡ 0 = ap length c.new-out.ensures in
      let keeps = size_as c.stub_keeps.result (stub_keeps (c.args.at + 38 + c.len.result + 6)) c.stub_keeps.ensures (keeps_sound (c.args.at + 38 + c.len.result + 6) (omega arith)) in
      let one_more = c.put.ensures.len in
      let body : length c.as_slice.result.now ≡ length c.stub_body-body.result.items = ap length c.as_slice.ensures.value in
      let two_more = c.append.ensures.len in
      let hop = size_as (c.jump.result ∷ []) (jumps c.args.target (c.args.at + 38 + c.len.result + 6) ∷ []) (ap one c.jump.ensures) (jump_sound c.args.target (c.args.at + 38 + c.len.result + 6) far (omega arith)) in
      let three_more = c.put-2.ensures.len in
      let four_more = c.extend_result.ensures.bound in
      let last = size_as (c.give_back.result ∷ []) (bnd_ret ∷ []) (ap one c.give_back.ensures) returns_sound in
      omega arith;
}

pub append-requires : goal.append-requires
append-requires c =
    let bound = c.stub_body-body.ensures.bound in
    let high = c.requires.at.1 in
    let far = c.requires.target.1 in
    let long = c.len.ensures in
    let none : length c.new-out.result.items ≡ 0 = ap length c.new-out.ensures in
    let keeps = size_as c.stub_keeps.result (stub_keeps (c.args.at + 38 + c.len.result + 6)) c.stub_keeps.ensures (keeps_sound (c.args.at + 38 + c.len.result + 6) (omega arith)) in
    let one_more = c.put.ensures.len in
    let body : length c.as_slice.result.now ≡ length c.stub_body-body.result.items = ap length c.as_slice.ensures.value in
    omega arith

pub extend_result-requires : goal.extend_result-requires
extend_result-requires c =
    let bound = c.stub_body-body.ensures.bound in
    let high = c.requires.at.1 in
    let far = c.requires.target.1 in
    let long = c.len.ensures in
    let none : length c.new-out.result.items ≡ 0 = ap length c.new-out.ensures in
    let keeps = size_as c.stub_keeps.result (stub_keeps (c.args.at + 38 + c.len.result + 6)) c.stub_keeps.ensures (keeps_sound (c.args.at + 38 + c.len.result + 6) (omega arith)) in
    let one_more = c.put.ensures.len in
    let body : length c.as_slice.result.now ≡ length c.stub_body-body.result.items = ap length c.as_slice.ensures.value in
    let two_more = c.append.ensures.len in
    let hop = size_as (c.jump.result ∷ []) (jumps c.args.target (c.args.at + 38 + c.len.result + 6) ∷ []) (ap one c.jump.ensures) (jump_sound c.args.target (c.args.at + 38 + c.len.result + 6) far (omega arith)) in
    let three_more = c.put-2.ensures.len in
    omega arith

pub returns : goal.returns
returns c =
    let sig = (signature_of c.args.sig.now.result c.args.sig.now.params.items) in
    let size = body_size sig c.stub_body-body.result.items c.stub_body-body.ensures.items (body_sound sig (stub_clears_sound sig c.requires.sig)) in
    let long = c.len.ensures in
    let tail : c.args.at + 38 + c.len.result + 6 ≡ c.args.at + stub_body_size sig = omega arith in
    stub_made sig c.args.target c.args.at (c.args.at + 38 + c.len.result + 6) _ _ _ _ _ _ c.stub_body-body.result.items _ (c.jump.result ∷ []) (c.give_back.result ∷ [])
    tail c.stub_body-body.ensures.items
    c.new-out.ensures c.stub_keeps.ensures c.put.ensures.items
    (c.append.ensures.items ∙ ap (λ (l : List ℕ). c.put.new.out.items ++ l) c.as_slice.ensures.value)
    (ap one c.jump.ensures) c.put-2.ensures.items
    c.extend_result.ensures.items
    (ap one c.give_back.ensures) c.put-3.ensures.items
