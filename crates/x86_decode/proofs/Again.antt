-- Every valid instruction is read again from its spelling, whatever follows. So no spelling is a prefix of another.
use Rattle.std.proofs.Common.{◌≡◌, IsTrue, ℕ, List, ◌++◌, length, take, sym, ap, ◌∙◌, zero-add}
use Rattle.std.specs.Prelude.{Ok, drop}
use Rattle.std.proofs.lemmas.List.{take-append-drop, length-take-le}
use Rattle.x86_forms.specs.declared.instr.Instr.{Instr}
use Rattle.x86_forms.specs.declared.instr.Instr.TheVariants.{MovTo, MovFrom, MovMemImm, MovImm, Movsxd, Movzx, Movsx, Lea, AluTo, AluFrom, AluImm, Test, Imul, One, Wide, ShiftCl, ShiftImm, Set, Push, Pop, CallRel, JmpRel, CallRm, JmpRm, Jcc, Ret, Syscall, Ud2, Nop, Bndmk, Bndcl, Bndcu, Bndcn, BndmovTo, BndmovFrom, Bndldx, Bndstx}
use Rattle.x86_forms.specs.Spelling.{Spells}
use Rattle.x86_forms.specs.Validity.{valid_of}
use Rattle.x86_decode.specs.declared.states.State.TheVariants.{Start}
use Rattle.x86_decode.specs.declared.states.Next.TheVariants.{Go, End}
use Rattle.x86_decode.specs.Reading.{OneForm, BeginsWith}
use Rattle.x86_decode.specs.Run.{run}
use Rattle.x86_decode.proofs.AgainAlu.{again-AluTo, again-AluFrom, again-AluImm, again-Test, again-Imul, again-One, again-ShiftCl, again-ShiftImm, again-Set}
use Rattle.x86_decode.proofs.AgainBounds.{again-CallRm, again-JmpRm, again-Bndmk, again-Bndcl, again-Bndcu, again-Bndcn, again-BndmovTo, again-BndmovFrom, again-Bndldx, again-Bndstx}
use Rattle.x86_decode.proofs.AgainMoves.{again-MovTo, again-MovFrom, again-MovMemImm, again-Movsxd, again-Movzx, again-Movsx, again-Lea}
use Rattle.x86_decode.proofs.AgainOpcode.{again-MovImm, again-Wide, again-Push, again-Pop, again-CallRel, again-JmpRel, again-Jcc, again-Ret, again-Syscall, again-Ud2, again-Nop}
use Rattle.x86_decode.proofs.Feed.{feed, feed-append, feed-end, run_feed}
use Rattle.x86_decode.proofs.ReadForms.{ReadsAgain}

pub again : (i : Instr) → IsTrue (valid_of i) → ReadsAgain i
again (MovTo w r rm) v = again-MovTo w r rm v
again (MovFrom w r m) v = again-MovFrom w r m v
again (MovMemImm w m imm) v = again-MovMemImm w m imm v
again (MovImm w r imm) v = again-MovImm w r imm v
again (Movsxd r rm) v = again-Movsxd r rm v
again (Movzx f r rm) v = again-Movzx f r rm v
again (Movsx w f r rm) v = again-Movsx w f r rm v
again (Lea r m) v = again-Lea r m v
again (AluTo op w r rm) v = again-AluTo op w r rm v
again (AluFrom op w r m) v = again-AluFrom op w r m v
again (AluImm op w rm imm) v = again-AluImm op w rm imm v
again (Test w r rm) v = again-Test w r rm v
again (Imul w r rm) v = again-Imul w r rm v
again (One op w rm) v = again-One op w rm v
again (Wide w) v = again-Wide w v
again (ShiftCl op w rm) v = again-ShiftCl op w rm v
again (ShiftImm op w rm imm) v = again-ShiftImm op w rm imm v
again (Set c rm) v = again-Set c rm v
again (Push r) v = again-Push r v
again (Pop r) v = again-Pop r v
again (CallRel b rel) v = again-CallRel b rel v
again (JmpRel b rel) v = again-JmpRel b rel v
again (CallRm b rm) v = again-CallRm b rm v
again (JmpRm b rm) v = again-JmpRm b rm v
again (Jcc b c rel) v = again-Jcc b c rel v
again (Ret b) v = again-Ret b
again Syscall v = again-Syscall
again Ud2 v = again-Ud2
again Nop v = again-Nop
again (Bndmk b m) v = again-Bndmk b m v
again (Bndcl b rm) v = again-Bndcl b rm v
again (Bndcu b rm) v = again-Bndcu b rm v
again (Bndcn b rm) v = again-Bndcn b rm v
again (BndmovTo b m) v = again-BndmovTo b m v
again (BndmovFrom b rm) v = again-BndmovFrom b rm v
again (Bndldx b m) v = again-Bndldx b m v
again (Bndstx b m) v = again-Bndstx b m v

-- bytes that spell an instruction lead to it
pub Spells-feed : (bytes : List ℕ) (i : Instr) → Spells bytes i → feed bytes (Go Start) ≡ End i
Spells-feed bytes i s = ap (λ xs. feed xs (Go Start)) s.bytes ∙ again i s.valid

pub Spells-run : (bytes rest : List ℕ) (i : Instr) → Spells bytes i → run (bytes ++ rest) Start 0 ≡ Ok (i, length bytes)
Spells-run bytes rest i s = run_feed bytes rest Start 0 i (Spells-feed bytes i s) ∙ ap (λ n. Ok (i, n)) (zero-add (length bytes))

pub one_form : OneForm
one_form xs rest i j s t =
    let e : feed rest (End i) ≡ End j = ap (λ n. feed rest n) (sym (Spells-feed xs i s)) ∙ sym (feed-append xs rest (Go Start)) ∙ Spells-feed (xs ++ rest) j t in
    let k = feed-end rest j i e in (k.0, sym k.1)

pub BeginsWith-run : (bytes : List ℕ) (i : Instr) (n : ℕ) → BeginsWith bytes i n → run bytes Start 0 ≡ Ok (i, n)
BeginsWith-run bytes i n b =
    let l : length (take n bytes) ≡ n = length-take-le n bytes b.within in
    ap (λ xs. run xs Start 0) (sym (take-append-drop n bytes)) ∙ Spells-run (take n bytes) (drop n bytes) i b.spells ∙ ap (λ m. Ok (i, m)) l
