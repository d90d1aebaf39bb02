-- What the automaton reads is spelled so.
use Rattle.std.proofs.Common.{◌≡◌, ◌<◌, ℕ, List, [], ◌∷◌, ◌++◌, subst}
use Rattle.x86_forms.specs.declared.instr.Instr.{Instr}
use Rattle.x86_forms.specs.Spelling.{Spells}
use Rattle.x86_decode.specs.declared.states.State.{State}
use Rattle.x86_decode.specs.declared.states.State.TheVariants.{Start, Prefix, Rex, Escape, ModRm, Sib, Disp, Imm}
use Rattle.x86_decode.specs.declared.states.Next.TheVariants.{Go, End}
use Rattle.x86_decode.specs.Steps.{step_of}
use Rattle.x86_decode.proofs.FoundHeads.{leads-start, leads-after_prefix, leads-after_rex, leads-after_escape}
use Rattle.x86_decode.proofs.FoundImm.{leads-imm}
use Rattle.x86_decode.proofs.FoundModrm.{leads-modrm, leads-sib}
use Rattle.x86_decode.proofs.FoundOperands.{leads-disp}
use Rattle.x86_decode.proofs.Reached.{Reached, Leads}

-- a byte further
pub leads-step : (s : State) (b : ℕ) (read : List ℕ) → Reached s read → b < 256 → Leads (read ++ (b ∷ [])) (step_of s b)
unfolding step_of
leads-step Start b read k h = leads-start b read k h
leads-step (Prefix p) b read k h = leads-after_prefix p b read k h
leads-step (Rex p rex) b read k h = leads-after_rex p rex b read k h
leads-step (Escape p rex) b read k h = leads-after_escape p rex b read k h
leads-step (ModRm head row) b read k h = leads-modrm head row b read k h
leads-step (Sib head row m) b read k h = leads-sib head row m b read k h
leads-step (Disp head row reg mode base index free have cells) b read k h = leads-disp head row reg mode base index free have b cells read k h
leads-step (Imm head row reg rm have cells) b read k h = leads-imm head row reg rm have b cells read k h

pub reached-go : (s t : State) (b : ℕ) (read : List ℕ) → Reached s read → b < 256 → step_of s b ≡ Go t → Reached t (read ++ (b ∷ []))
reached-go s t b read k h e = let l : Leads (read ++ (b ∷ [])) (Go t) = subst (λ x. Leads (read ++ (b ∷ [])) x) e (leads-step s b read k h) in l.leads

pub spells-end : (s : State) (i : Instr) (b : ℕ) (read : List ℕ) → Reached s read → b < 256 → step_of s b ≡ End i → Spells (read ++ (b ∷ [])) i
spells-end s i b read k h e = let l : Leads (read ++ (b ∷ [])) (End i) = subst (λ x. Leads (read ++ (b ∷ [])) x) e (leads-step s b read k h) in l.leads
