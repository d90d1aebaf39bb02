use Rattle.std.proofs.Common.{◌≡◌, ◌++◌, ℕ, List, [], ◌∷◌, length, ap, ◌∙◌, sym, arith}
use Rattle.call_sigs.specs.Signatures.{signature_of, kinds_of_letters, pointers}
use Rattle.call_gates.specs.Gates.{rax, rsp, copies, stub_writes, clear_all}
use Rattle.call_gates.proofs.Sound.{writes_and_sp_sound, scratch_sound}
use Rattle.call_gates.proofs.Bytes.{valid_as, size_as}
use Rattle.call_gates.proofs.Made.{few_letters, kinds_length, body_made}
use Rattle.call_gates.proofs.gates.stub_body.Goals as goal

pub put-requires : goal.put-requires
put-requires c = record {
  valid = valid_as c.stub_writes.result (stub_writes ++ copies rsp rax ∷ []) c.stub_writes.ensures writes_and_sp_sound;
  room = let none : length c.new-out.result.items ≡ 0 = ap length c.new-out.ensures in
      let size = size_as c.stub_writes.result (stub_writes ++ copies rsp rax ∷ []) c.stub_writes.ensures writes_and_sp_sound in
      omega arith;
}

pub extend_parameters-requires-clause-few : goal.extend_parameters-requires-clause-few
extend_parameters-requires-clause-few c = few_letters c.as_slice-params.result.now c.args.sig.now.params.items c.as_slice-params.ensures.value c.requires.few

pub extend_parameters-requires-clause-room : goal.extend_parameters-requires-clause-room
extend_parameters-requires-clause-room c =
    let none : length c.new-out.result.items ≡ 0 = ap length c.new-out.ensures in
    let size = size_as c.stub_writes.result (stub_writes ++ copies rsp rax ∷ []) c.stub_writes.ensures writes_and_sp_sound in
    let few = few_letters c.as_slice-params.result.now c.args.sig.now.params.items c.as_slice-params.ensures.value c.requires.few in
    let one = c.put.ensures.len in
    omega arith

pub put-requires-2 : goal.put-requires-2
put-requires-2 c = record {
  valid = valid_as c.clear_scratch.result (clear_all (0 ∷ 10 ∷ 11 ∷ [])) c.clear_scratch.ensures scratch_sound;
  room = let none : length c.new-out.result.items ≡ 0 = ap length c.new-out.ensures in
      let size = size_as c.stub_writes.result (stub_writes ++ copies rsp rax ∷ []) c.stub_writes.ensures writes_and_sp_sound in
      let more = size_as c.clear_scratch.result (clear_all (0 ∷ 10 ∷ 11 ∷ [])) c.clear_scratch.ensures scratch_sound in
      let few = few_letters c.as_slice-params.result.now c.args.sig.now.params.items c.as_slice-params.ensures.value c.requires.few in
      let one = c.put.ensures.len in
      let two = c.extend_parameters.ensures.bound in
      omega arith;
}

pub clear_rest-requires-clause-few : goal.clear_rest-requires-clause-few
clear_rest-requires-clause-few c = let few = few_letters c.as_slice-params.result.now c.args.sig.now.params.items c.as_slice-params.ensures.value c.requires.few in omega arith

pub clear_rest-requires-clause-room : goal.clear_rest-requires-clause-room
clear_rest-requires-clause-room c =
    let none : length c.new-out.result.items ≡ 0 = ap length c.new-out.ensures in
    let size = size_as c.stub_writes.result (stub_writes ++ copies rsp rax ∷ []) c.stub_writes.ensures writes_and_sp_sound in
    let more = size_as c.clear_scratch.result (clear_all (0 ∷ 10 ∷ 11 ∷ [])) c.clear_scratch.ensures scratch_sound in
    let few = few_letters c.as_slice-params.result.now c.args.sig.now.params.items c.as_slice-params.ensures.value c.requires.few in
    let one = c.put.ensures.len in
    let two = c.extend_parameters.ensures.bound in
    let three = c.put-2.ensures.len in
    omega arith

pub count_pointers-requires : goal.count_pointers-requires
count_pointers-requires c = few_letters c.as_slice-params.result.now c.args.sig.now.params.items c.as_slice-params.ensures.value c.requires.few

pub init_from-requires-clause-few : goal.init_from-requires-clause-few
init_from-requires-clause-few c =
    let same : c.count_pointers.result ≡ pointers (kinds_of_letters c.args.sig.now.params.items) = c.count_pointers.ensures ∙ ap (λ (l : List ℕ). pointers (kinds_of_letters l)) c.as_slice-params.ensures.value in
    let few = c.requires.pointed in
    omega arith

pub init_from-requires-clause-room : goal.init_from-requires-clause-room
init_from-requires-clause-room c =
    let none : length c.new-out.result.items ≡ 0 = ap length c.new-out.ensures in
    let size = size_as c.stub_writes.result (stub_writes ++ copies rsp rax ∷ []) c.stub_writes.ensures writes_and_sp_sound in
    let more = size_as c.clear_scratch.result (clear_all (0 ∷ 10 ∷ 11 ∷ [])) c.clear_scratch.ensures scratch_sound in
    let few = few_letters c.as_slice-params.result.now c.args.sig.now.params.items c.as_slice-params.ensures.value c.requires.few in
    let one = c.put.ensures.len in
    let two = c.extend_parameters.ensures.bound in
    let three = c.put-2.ensures.len in
    let four = c.clear_rest.ensures.bound in
    omega arith

pub returns-clause-items : goal.returns-clause-items
returns-clause-items c =
    body_made (signature_of c.args.sig.now.result c.args.sig.now.params.items) _ _ _ _ _ _ _ _ (kinds_of_letters c.as_slice-params.result.now) (length c.as_slice-params.result.now) c.count_pointers.result
    c.new-out.ensures c.stub_writes.ensures c.put.ensures.items
    (ap kinds_of_letters c.as_slice-params.ensures.value) c.extend_parameters.ensures.items
    c.clear_scratch.ensures c.put-2.ensures.items
    (ap length c.as_slice-params.ensures.value ∙ sym (kinds_length c.args.sig.now.params.items)) c.clear_rest.ensures.items
    (c.count_pointers.ensures ∙ ap (λ (l : List ℕ). pointers (kinds_of_letters l)) c.as_slice-params.ensures.value) c.init_from.ensures.items

pub returns-clause-bound : goal.returns-clause-bound
returns-clause-bound c =
    let none : length c.new-out.result.items ≡ 0 = ap length c.new-out.ensures in
    let size = size_as c.stub_writes.result (stub_writes ++ copies rsp rax ∷ []) c.stub_writes.ensures writes_and_sp_sound in
    let more = size_as c.clear_scratch.result (clear_all (0 ∷ 10 ∷ 11 ∷ [])) c.clear_scratch.ensures scratch_sound in
    let few = few_letters c.as_slice-params.result.now c.args.sig.now.params.items c.as_slice-params.ensures.value c.requires.few in
    let one = c.put.ensures.len in
    let two = c.extend_parameters.ensures.bound in
    let three = c.put-2.ensures.len in
    let four = c.clear_rest.ensures.bound in
    let five = c.init_from.ensures.bound in
    omega arith
