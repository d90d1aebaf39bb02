use Rattle.std.proofs.Common.{◌≡◌, ◌++◌, ℕ, List, length, get_or, ap, ◌∙◌, arith}
use Rattle.x86_forms.specs.declared.instr.Instr.{Instr}
use Rattle.x86_forms.specs.declared.instr.Instr.TheVariants.{MovTo}
use Rattle.x86_forms.specs.declared.instr.Rm.TheVariants.{Reg as InReg}
use Rattle.x86_forms.specs.Spelling.{spelling}
use Rattle.call_gates.proofs.Loops.{next_valid, next_room, next_put}
use Rattle.call_gates.proofs.code.put.Goals as goal

-- what an index beyond the list would give
abbrev beyond : Instr
beyond = MovTo 0 record { 0 = 0 } (InReg record { 0 = 0 })

pub encode-requires : goal.encode-requires
encode-requires c = (next_valid c.args.code.now c.all.instr-index beyond (omega arith) c.all.invariant.valid).0

pub append-requires : goal.append-requires
append-requires c =
    let room = next_room c.all.out.items c.args.out.now.items c.args.code.now c.all.instr-index beyond 128 (omega arith) c.all.invariant.same c.requires.room in
    let same : length c.as_slice.result.now ≡ length (spelling (get_or c.args.code.now c.all.instr-index beyond)) = ap length (c.as_slice.ensures.value ∙ c.encode.ensures) in
    omega arith

pub all-preserved : goal.all-preserved
all-preserved c = record {
  same = next_put c.all.out.items c.append.new.out.items c.args.out.now.items c.args.code.now c.all.instr-index beyond (omega arith) c.all.invariant.same (c.append.ensures.items ∙ ap (λ (l : List ℕ). c.all.out.items ++ l) (c.as_slice.ensures.value ∙ c.encode.ensures));
  valid = (next_valid c.args.code.now c.all.instr-index beyond (omega arith) c.all.invariant.valid).1;
}
