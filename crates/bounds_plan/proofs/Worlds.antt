-- What runs keep: turns, output, and accesses within their bounds.
use Rattle.std.specs.Prelude.{◌≢◌}
use Rattle.std.proofs.lemmas.Bool.Decides.{nat_tests}
use Rattle.std.proofs.Common.{ℕ, ◌≡◌, ◌≤◌, Bool, cond, ◌==◌, refl, sym, ap, ◌∙◌, subst, List, [], ◌∷◌, ◌++◌, append_assoc, Option, Some, None, true, false, arith}
use Rattle.std.proofs.lemmas.List.{append-nil}
use Rattle.mx_base.specs.declared.numbers.IntKind.{IntKind}
use Rattle.mx_base.specs.declared.numbers.IntKind.TheVariants.{I8, U8, I16, U16, I32, U32, I64, U64}
use Rattle.mx_base.specs.Bounds.{is_outside}
use Rattle.mx_base.specs.Access.{refusal}
use Rattle.mx_base.specs.declared.limits.Bounds.{Bounds as BoundsPair}
use Rattle.mx_base.specs.BoundsStore.{BoundsStore, granule, keep_bounds}
use Rattle.mx_base.specs.World.{World, Access, Traced, Log, read_noted, number_written, with_store}
use Rattle.fat_ir.specs.Laws.{NoneRefused, NotWritten}
use Rattle.fat_ir.proofs.Worlds.{Begins, begins-same, begins-join, served-longer, none-refused, not-front, not-back, elsewhere}
use Rattle.bounds_plan.specs.meaning.Core.{NumberExpr, PointerExpr, Scalar, Statement, Skip, Do, Then, If, While, DoWhile, For, Break, Continue, Return, ReturnNumber, ReturnPtr, Effect, Nothing, OfNumber, OfPointer, CopyStruct}
use Rattle.bounds_plan.specs.meaning.State.{Passed, Pointer, State, Ended}
use Rattle.bounds_plan.specs.meaning.Accesses.{access}
use Rattle.bounds_plan.specs.meaning.Expressions.{CalleeOfC, Names, number, pointer}
use Rattle.bounds_plan.specs.meaning.Statements.{part, effect, statement}
use Rattle.bounds_plan.specs.meaning.Functions.{Parameter, arrive_all, Linked, calls}
use Rattle.bounds_plan.specs.laws.Laws.{LeftByCalls, LeftOutside, NoMoreTurns, OutputGrows, Judged, accesses_of, AllWithin, scalar_size, most_bytes, AllInside, LieInside, CopiesWhole, CopyFact, OfEffect, OfCopies, Relation, NotKept, OnlyWrites, Events, InPieces, PieceOfC, Joined}
use Rattle.bounds_plan.proofs.Roots.{kept-keep}
use Rattle.bounds_plan.proofs.Runs.{Keeps, Kept, CopiesAll, kept-number, kept-pointer, kept-effect, kept-statement, kept-arrive_all, kept-calls}
use Rattle.bounds_plan.proofs.Parts.{part-inside}

abbrev Always : CopyFact
Always size scalars = Unit {0}

always-effect : (e : Effect) → OfEffect Always e
always-effect Nothing = tt
always-effect (OfNumber e) = tt
always-effect (OfPointer p) = tt
always-effect (CopyStruct size scalars to_place to from_place from) = tt

always : (s : Statement) → OfCopies Always s
always Skip = tt
always (Do e) = always-effect e
always (Then a b) = (always a, always b)
always (If test a b) = (always a, always b)
always (While test body) = always body
always (DoWhile body test) = always body
always (For test step body) = (always-effect step, always body)
always Break = tt
always Continue = tt
always Return = tt
always (ReturnNumber e) = tt
always (ReturnPtr p) = tt

pub fewer : Keeps NoMoreTurns
fewer = record {
  same = λ w l. omega arith;
  join = λ w l u m v n h g. omega (arith, h, g);
  logged = λ w l m e. omega arith;
  asked = λ w l s e. omega arith;
  served = λ w l service word answer g e. omega arith;
  turned = λ w l n e. omega (arith, e);
  framed = λ w l sp. omega arith;
  read = λ w l n p e f. omega arith;
  wrote = λ w l n p v e f. omega arith;
  wrote_pointer = λ w l p v b s e f g. omega arith;
}

fewer-copies : (to from : Pointer) (scalars : List Scalar) → CopiesAll NoMoreTurns fewer to from scalars
fewer-copies to from [] = tt
fewer-copies to from (x ∷ rest) = ((λ e w l. omega arith, λ e w l v. omega arith, λ n e w l v b s f. omega arith), fewer-copies to from rest)

pub fewer-calls : (program : ℕ → Linked) (outside : CalleeOfC → CalleeOfC) → LeftOutside NoMoreTurns outside → (depth : ℕ) → LeftByCalls NoMoreTurns (calls program outside depth)
fewer-calls program outside out depth = kept-calls NoMoreTurns fewer Always (λ size scalars fit to from e f. fewer-copies to from scalars) program (λ f. always (program f).fun.body) outside out depth

-- no computation of a function leaves more turns than there were
abbrev pub Fewer : {A : Type 0} → State → Ended A → Type 0
Fewer s r = Kept NoMoreTurns fewer s r

pub fewer-number : (names : Names) → LeftByCalls NoMoreTurns names.call → (e : NumberExpr) (s : State) → Fewer s (number names e s)
fewer-number names h e s = kept-number NoMoreTurns fewer names h e s

pub fewer-pointer : (names : Names) → LeftByCalls NoMoreTurns names.call → (e : PointerExpr) (s : State) → Fewer s (pointer names e s)
fewer-pointer names h e s = kept-pointer NoMoreTurns fewer names h e s

pub fewer-effect : (names : Names) → LeftByCalls NoMoreTurns names.call → (e : Effect) (s : State) → Fewer s (effect names e s)
fewer-effect names h e s = kept-effect NoMoreTurns fewer Always (λ size scalars fit to from e f. fewer-copies to from scalars) names h e (always-effect e) s

pub fewer-statement : (names : Names) → LeftByCalls NoMoreTurns names.call → (st : Statement) (s : State) → Fewer s (statement names st s)
fewer-statement names h st s = kept-statement NoMoreTurns fewer Always (λ size scalars fit to from e f. fewer-copies to from scalars) names h st (always st) s

pub fewer-arrive : (ps : List Parameter) (args : List Passed) (s : State) → Fewer s (arrive_all ps args s)
fewer-arrive ps args s = kept-arrive_all NoMoreTurns fewer Always (λ size scalars fit to from e f. fewer-copies to from scalars) ps args s

-- ---- output

output : (w : World) (l : Log) (u : World) (m : Log) → Begins w.guest.out u.guest.out → OutputGrows w l u m
output w l u m h = record { more = h.more; is = h.is }

output_join : (w : World) (l : Log) (u : World) (m : Log) (v : World) (n : Log) → OutputGrows w l u m → OutputGrows u m v n → OutputGrows w l v n
output_join w l u m v n h g = output w l v n (begins-join w.guest.out u.guest.out v.guest.out record { more = h.more; is = h.is } record { more = g.more; is = g.is })

pub longer : Keeps OutputGrows
longer = record {
  same = λ w l. output w l w l (begins-same w.guest.out);
  join = output_join;
  logged = λ w l m e. output w l w m (begins-same w.guest.out);
  asked = λ w l s e. output w l _ l (begins-same w.guest.out);
  served = λ w l service word answer g e. output w l _ l (served-longer w service word answer g e);
  turned = λ w l n e. output w l _ l (begins-same w.guest.out);
  framed = λ w l sp. output w l _ l (begins-same w.guest.out);
  read = λ w l n p e f. output w l _ _ (begins-same w.guest.out);
  wrote = λ w l n p v e f. output w l _ _ (begins-same w.guest.out);
  wrote_pointer = λ w l p v b s e f g. output w l _ _ (begins-same w.guest.out);
}

pub longer-by-none : (w : World) (l : Log) (u : World) (m : Log) → u.guest.out ≡ w.guest.out → OutputGrows w l u m
longer-by-none w l u m e = record { more = []; is = e ∙ sym (append-nil w.guest.out) }

longer-copies : (to from : Pointer) (scalars : List Scalar) → CopiesAll OutputGrows longer to from scalars
longer-copies to from [] = tt
longer-copies to from (x ∷ rest) = ((λ e w l. output w l _ _ (begins-same w.guest.out), λ e w l v. output w l _ _ (begins-same w.guest.out), λ n e w l v b s f. output w l _ _ (begins-same w.guest.out)), longer-copies to from rest)

pub longer-calls : (program : ℕ → Linked) (outside : CalleeOfC → CalleeOfC) → LeftOutside OutputGrows outside → (depth : ℕ) → LeftByCalls OutputGrows (calls program outside depth)
longer-calls program outside out depth = kept-calls OutputGrows longer Always (λ size scalars fit to from e f. longer-copies to from scalars) program (λ f. always (program f).fun.body) outside out depth

-- ---- accesses within their bounds

of-append : (xs ys : List Traced) → accesses_of (xs ++ ys) ≡ accesses_of xs ++ accesses_of ys
of-append [] ys = refl
of-append (x ∷ xs) ys = ap (λ zs. x.access ∷ zs) (of-append xs ys)

within-append : (xs ys : List Traced) → AllWithin xs → AllWithin ys → AllWithin (xs ++ ys)
within-append [] ys h g = g
within-append (x ∷ xs) ys h g = (h.0, within-append xs ys h.1 g)

pub no_access : (w : World) (l : Log) (u : World) (m : Log) → m.trace ≡ l.trace → u.accesses ≡ w.accesses → Judged w l u m
no_access w l u m t a = record {
  more = [];
  trace = t ∙ sym (append-nil l.trace);
  accesses = a ∙ sym (append-nil w.accesses);
  within = tt;
  allowed = tt;
}

judged_join : (w : World) (l : Log) (u : World) (m : Log) (v : World) (n : Log) → Judged w l u m → Judged u m v n → Judged w l v n
judged_join w l u m v n h g =
    let split = of-append h.more g.more in
    let P : List Access → Type 0 = λ xs. NoneRefused xs in
    record {
      more = h.more ++ g.more;
      trace = g.trace ∙ ap (λ ts. ts ++ g.more) h.trace ∙ append_assoc l.trace h.more g.more;
      accesses = g.accesses ∙ ap (λ us. us ++ accesses_of g.more) h.accesses ∙ append_assoc w.accesses (accesses_of h.more) (accesses_of g.more) ∙ ap (λ zs. w.accesses ++ zs) (sym split);
      within = within-append h.more g.more h.within g.within;
      allowed = subst P (sym split) (none-refused (accesses_of h.more) (accesses_of g.more) h.allowed g.allowed);
    }

judged_access : (w : World) (l : Log) (u : World) (write : Bool) (n : ℕ) (p : Pointer) → u.accesses ≡ w.accesses ++ record { write = write; at = p.address; size = n } ∷ [] → refusal write n p.address ≡ None → is_outside p.address n p.rooted.bounds ≡ false → Judged w l u (access write n p l)
judged_access w l u write n p is e f = record { more = _ ∷ []; trace = refl; accesses = is; within = (f, tt); allowed = (e, tt) }

pub judged : Keeps Judged
judged = record {
  same = λ w l. no_access w l w l refl refl;
  join = judged_join;
  logged = λ w l m e. no_access w l w m e refl;
  asked = λ w l s e. no_access w l _ l refl refl;
  served = λ w l service word answer g e. no_access w l _ l refl refl;
  turned = λ w l n e. no_access w l _ l refl refl;
  framed = λ w l sp. no_access w l _ l refl refl;
  read = λ w l n p e f. judged_access w l _ false n p refl e f;
  wrote = λ w l n p v e f. judged_access w l _ true n p refl e f;
  wrote_pointer = λ w l p v b s e f g. judged_access w l _ true 8 p refl e f;
}

-- ---- memory, and the bounds that are kept

kept-front : (g : ℕ) (xs ys : List Access) → NotKept g (xs ++ ys) → NotKept g xs
kept-front g [] ys h = tt
kept-front g (x ∷ xs) ys h = (h.0, kept-front g xs ys h.1)

kept-back : (g : ℕ) (xs ys : List Access) → NotKept g (xs ++ ys) → NotKept g ys
kept-back g [] ys h = h
kept-back g (x ∷ xs) ys h = kept-back g xs ys h.1

untouched : (w : World) (l : Log) (u : World) (m : Log) → m.trace ≡ l.trace → u.accesses ≡ w.accesses → u.bytes ≡ w.bytes → ((g : ℕ) → u.store.kept g ≡ w.store.kept g) → OnlyWrites w l u m
untouched w l u m t a b k = record { judged = no_access w l u m t a; bytes = λ x none i. b i x; kept = λ g none. k g }

writes_join : (w : World) (l : Log) (u : World) (m : Log) (v : World) (n : Log) → OnlyWrites w l u m → OnlyWrites u m v n → OnlyWrites w l v n
unfolding judged_join
writes_join w l u m v n h g =
    let split = of-append h.judged.more g.judged.more in
    let xs = accesses_of h.judged.more in
    let ys = accesses_of g.judged.more in
    record {
      judged = judged_join w l u m v n h.judged g.judged;
      bytes = λ x none.
          let Q : List Access → Type 0 = λ zs. NotWritten x zs in
          let apart : NotWritten x (xs ++ ys) = subst Q split none in
          g.bytes x (not-back x xs ys apart) ∙ h.bytes x (not-front x xs ys apart);
      kept = λ i none.
          let Q : List Access → Type 0 = λ zs. NotKept i zs in
          let apart : NotKept i (xs ++ ys) = subst Q split none in
          g.kept i (kept-back i xs ys apart) ∙ h.kept i (kept-front i xs ys apart);
    }

only_read : (w : World) (l : Log) (n : ℕ) (p : Pointer) → refusal false n p.address ≡ None → is_outside p.address n p.rooted.bounds ≡ false → OnlyWrites w l (read_noted n w p.address) (access false n p l)
only_read w l n p e f = record { judged = judged_access w l _ false n p refl e f; bytes = λ x none. refl; kept = λ g none. refl }

only_wrote : (w : World) (l : Log) (n : ℕ) (p : Pointer) (v : ℕ) → refusal true n p.address ≡ None → is_outside p.address n p.rooted.bounds ≡ false → OnlyWrites w l (number_written n w p.address v) (access true n p l)
unfolding judged_access
only_wrote w l n p v e f = record { judged = judged_access w l _ true n p refl e f; bytes = λ x none. elsewhere n p.address v x w.bytes (none.0 refl); kept = λ g none. refl }

other-granule : (g a : ℕ) → g ≢ granule a → (g == granule a) ≡ false
other-granule g a h = grind (arith, nat_tests)

only_kept : (w : World) (l : Log) (p : Pointer) (v : ℕ) (b : BoundsPair) (s : BoundsStore) → refusal true 8 p.address ≡ None → is_outside p.address 8 p.rooted.bounds ≡ false → keep_bounds w.store p.address v b ≡ Some s
    → OnlyWrites w l (with_store (number_written 8 w p.address v) s) (access true 8 p l)
unfolding judged_access
only_kept w l p v b s e f is = record {
  judged = judged_access w l _ true 8 p refl e f;
  bytes = λ x none. elsewhere 8 p.address v x w.bytes (none.0 refl);
  kept = λ g none. kept-keep w.store s p.address v g b is ∙ ap (λ c. cond c (Some record { value = v; bounds = b }) (w.store.kept g)) (other-granule g p.address (none.0 refl refl));
}

pub only : Keeps OnlyWrites
only = record {
  same = λ w l. untouched w l w l refl refl refl (λ g. refl);
  join = writes_join;
  logged = λ w l m e. untouched w l w m e refl refl (λ g. refl);
  asked = λ w l s e. untouched w l _ l refl refl refl e;
  served = λ w l service word answer g e. untouched w l _ l refl refl refl (λ g. refl);
  turned = λ w l n e. untouched w l _ l refl refl refl (λ g. refl);
  framed = λ w l sp. untouched w l _ l refl refl refl (λ g. refl);
  read = only_read;
  wrote = only_wrote;
  wrote_pointer = only_kept;
}

module _ (event : Events) where
  of_c : (w : World) (l : Log) (u : World) (m : Log) → OnlyWrites w l u m → InPieces event w l u m
  of_c w l u m h = PieceOfC w l u m h

  pub pieces : Keeps (InPieces event)
  pieces = record {
    same = λ w l. of_c w l w l (only.same w l);
    join = λ w l u m v n h g. Joined w l u m v n h g;
    logged = λ w l m e. of_c w l w m (only.logged w l m e);
    asked = λ w l s e. of_c w l _ l (only.asked w l s e);
    served = λ w l service word answer g e. of_c w l _ l (only.served w l service word answer g e);
    turned = λ w l n e. of_c w l _ l (only.turned w l n e);
    framed = λ w l sp. of_c w l _ l (only.framed w l sp);
    read = λ w l n p e f. of_c w l _ _ (only_read w l n p e f);
    wrote = λ w l n p v e f. of_c w l _ _ (only_wrote w l n p v e f);
    wrote_pointer = λ w l p v b s e f g. of_c w l _ _ (only_kept w l p v b s e f g);
  }

-- ---- structs that are copied

some-scalar : (kind : Option IntKind) → 1 ≤ scalar_size kind
some-scalar None = omega arith
some-scalar (Some I8) = omega arith
some-scalar (Some U8) = omega arith
some-scalar (Some I16) = omega arith
some-scalar (Some U16) = omega arith
some-scalar (Some I32) = omega arith
some-scalar (Some U32) = omega arith
some-scalar (Some I64) = omega arith
some-scalar (Some U64) = omega arith

module _ (R : Relation) (k : Keeps R) where
  inside-copies : (size : ℕ) (scalars : List Scalar) → size ≤ most_bytes → AllInside size scalars → (to from : Pointer) → is_outside (part 0 from).address size from.rooted.bounds ≡ false → is_outside (part 0 to).address size to.rooted.bounds ≡ false → CopiesAll R k to from scalars
  inside-copies size [] small fits to from e f = tt
  inside-copies size (x ∷ rest) small fits to from e f =
      let n = scalar_size x.kind in
      let inside_from = λ (open_bytes : refusal false n (part x.offset from).address ≡ None). part-inside false from.address x.offset n size from.rooted.bounds small (some-scalar x.kind) fits.0 e open_bytes in
      let inside_to = λ (open_bytes : refusal true n (part x.offset to).address ≡ None). part-inside true to.address x.offset n size to.rooted.bounds small (some-scalar x.kind) fits.0 f open_bytes in (
        (
          λ open_bytes w l. k.read w l n (part x.offset from) open_bytes (inside_from open_bytes),
          λ open_bytes w l v. k.wrote w l n (part x.offset to) v open_bytes (inside_to open_bytes),
          λ eight open_bytes w l v b s is.
              let fit = fits.0 in
              k.wrote_pointer w l (part x.offset to) v b s open_bytes (part-inside true to.address x.offset 8 size to.rooted.bounds small (omega arith) (omega (arith, eight, fit)) f open_bytes) is,
        ),
        inside-copies size rest small fits.1 to from e f,
      )

  pub inside-calls : (program : ℕ → Linked) → CopiesWhole program → (outside : CalleeOfC → CalleeOfC) → LeftOutside R outside → (depth : ℕ) → LeftByCalls R (calls program outside depth)
  inside-calls program whole outside out depth = kept-calls R k LieInside (λ size scalars fit to from e f. inside-copies size scalars fit.0 fit.1 to from e f) program whole outside out depth

pub judged-calls : (program : ℕ → Linked) → CopiesWhole program → (outside : CalleeOfC → CalleeOfC) → LeftOutside Judged outside → (depth : ℕ) → LeftByCalls Judged (calls program outside depth)
judged-calls = inside-calls Judged judged

pub only-calls : (program : ℕ → Linked) → CopiesWhole program → (outside : CalleeOfC → CalleeOfC) → LeftOutside OnlyWrites outside → (depth : ℕ) → LeftByCalls OnlyWrites (calls program outside depth)
only-calls = inside-calls OnlyWrites only

pub pieces-calls : (event : Events) (program : ℕ → Linked) → CopiesWhole program → (outside : CalleeOfC → CalleeOfC) → LeftOutside (InPieces event) outside → (depth : ℕ) → LeftByCalls (InPieces event) (calls program outside depth)
pieces-calls event = inside-calls (InPieces event) (pieces event)
