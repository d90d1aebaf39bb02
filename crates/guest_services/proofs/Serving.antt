-- What each service means, and what a call that does it answers and leaves.
use Rattle.std.specs.Fmt.{signed_decimal}
use Rattle.std.proofs.Common.{◌≡◌, ◌≢◌, ℕ, ◌<◌, ◌%◌, length, true, false, ◌==◌, Option, None, Some, Result, Ok, Err, List, [], ◌∷◌, ◌++◌, refl, sym, ap, subst, inl, inr}
use Rattle.std.proofs.lemmas.Bool.Decides.{eqb_tells}
use Rattle.mx_base.specs.Regions.{is_readable}
use Rattle.mx_base.specs.Memory.{Bytes, list_at, first_refused_around}
use Rattle.mx_base.specs.Heap.{Heap, allocated, freed}
use Rattle.mx_base.specs.Numbers.{value_of}
use Rattle.mx_base.specs.declared.numbers.IntKind.TheVariants.{I64}
use Rattle.mx_base.specs.Services.{Guest, Served, Answers, Exits, Overflows, Refused, service_of, served, minus}
use Rattle.mx_base.specs.Outside.{Adds, AddsFront}
use Rattle.guest_services.specs.declared.services.Served.TheVariants.{Value, Exit, StackOver, Unmapped, ReadFault, WriteFault}
use Rattle.guest_services.specs.Streams.{MayTell, Leaves, PutsAll}
use Rattle.guest_services.specs.Calls.{Around, Stays, Ends, meant, put_served}
use Rattle.guest_services.proofs.Sinks.{Adds-none}

same : (a b : ℕ) → a ≡ b → (a == b) ≡ true
same a b e = elim (eqb_tells a b) [ inl p ↦ p.0 | inr p ↦ absurd (p.1 e) ]

differs : (a b : ℕ) → a ≢ b → (a == b) ≡ false
differs a b e = elim (eqb_tells a b) [ inl p ↦ absurd (e p.1) | inr p ↦ p.0 ]

abbrev guest : Heap → List ℕ → List ℕ → Guest
guest heap input out = record { heap = heap; input = input; out = out }

abbrev around : Heap → Option (List ℕ) → Option (List ℕ) → Around
around heap left held = record { heap = heap; left = left; held = held }

-- ---- what each service means

pub write_elsewhere : (m : Bytes) (d from n : ℕ) (h : Heap) (input : List ℕ) → d ≢ 1 → meant m 1 d from n h input ≡ Answers (minus 9) (guest h input [])
unfolding served service_of
write_elsewhere m d from n h input other = rw (differs d 1 other) refl

pub write_nothing : (m : Bytes) (d from n : ℕ) (h : Heap) (input : List ℕ) → d ≡ 1 → n ≡ 0 → meant m 1 d from n h input ≡ Answers 0 (guest h input [])
unfolding served service_of
write_nothing m d from n h input one none = rw (same d 1 one, same n 0 none) refl

pub write_refused : (m : Bytes) (d from n : ℕ) (h : Heap) (input : List ℕ) (x : ℕ) → d ≡ 1 → n ≢ 0 → first_refused_around is_readable n from ≡ Some x → meant m 1 d from n h input ≡ Refused x
unfolding served service_of
write_refused m d from n h input x one some is = rw (same d 1 one, differs n 0 some, is) refl

pub write_done : (m : Bytes) (d from n : ℕ) (h : Heap) (input : List ℕ) → d ≡ 1 → n ≢ 0 → first_refused_around is_readable n from ≡ None → meant m 1 d from n h input ≡ Answers n (guest h input (list_at n m from))
unfolding served service_of
write_done m d from n h input one some is = rw (same d 1 one, differs n 0 some, is) refl

exit_means : (m : Bytes) (a b c : ℕ) (h : Heap) (input : List ℕ) → meant m 60 a b c h input ≡ Exits (a % 256)
unfolding served service_of
exit_means m a b c h input = refl

alloc_means : (m : Bytes) (a b c : ℕ) (h : Heap) (input : List ℕ) → meant m 0x1000 a b c h input ≡ Answers (allocated h a).0 (guest (allocated h a).1 input [])
unfolding served service_of
alloc_means m a b c h input = refl

free_means : (m : Bytes) (a b c : ℕ) (h g : Heap) (input : List ℕ) → freed h a ≡ Some g → meant m 0x1001 a b c h input ≡ Answers 0 (guest g input [])
unfolding served service_of
free_means m a b c h g input is = rw is refl

free_refused : (m : Bytes) (a b c : ℕ) (h : Heap) (input : List ℕ) → freed h a ≡ None → meant m 0x1001 a b c h input ≡ Answers (minus 1) (guest h input [])
unfolding served service_of
free_refused m a b c h input is = rw is refl

pub print_means : (m : Bytes) (a b c : ℕ) (h : Heap) (input : List ℕ) → meant m 0x1002 a b c h input ≡ Answers 0 (guest h input (signed_decimal (value_of I64 a) ++ 10 ∷ []))
unfolding served service_of
print_means m a b c h input = refl

pub put_means : (m : Bytes) (a b c : ℕ) (h : Heap) (input : List ℕ) → meant m 0x1003 a b c h input ≡ Answers 0 (guest h input (a % 256 ∷ []))
unfolding served service_of
put_means m a b c h input = refl

get_means : (m : Bytes) (a b c x : ℕ) (h : Heap) (rest : List ℕ) → meant m 0x1004 a b c h (x ∷ rest) ≡ Answers x (guest h rest [])
unfolding served service_of
get_means m a b c x h rest = refl

get_nothing : (m : Bytes) (a b c : ℕ) (h : Heap) → meant m 0x1004 a b c h [] ≡ Answers (minus 1) (guest h [] [])
unfolding served service_of
get_nothing m a b c h = refl

over_means : (m : Bytes) (a b c : ℕ) (h : Heap) (input : List ℕ) → meant m 0x1005 a b c h input ≡ Overflows
unfolding served service_of
over_means m a b c h input = refl

pub no_means : (m : Bytes) (n a b c : ℕ) (h : Heap) (input : List ℕ) → n ≢ 1 → n ≢ 60 → n ≢ 0x1000 → n ≢ 0x1001 → n ≢ 0x1002 → n ≢ 0x1003 → n ≢ 0x1004 → n ≢ 0x1005
    → meant m n a b c h input ≡ Answers (minus 38) (guest h input [])
unfolding served service_of
no_means m n a b c h input p q r s t u v w =
    rw (differs n 1 p, differs n 60 q, differs n 0x1000 r, differs n 0x1001 s, differs n 0x1002 t, differs n 0x1003 u, differs n 0x1004 v, differs n 0x1005 w) refl

-- ---- what is left

-- the input that is told, or none
abbrev pub told : Option (List ℕ) → List ℕ
told None = []
told (Some bytes) = bytes

pub tells : (o : Option (List ℕ)) → MayTell o (told o)
tells None = tt
tells (Some bytes) = refl

kept_input : (o : Option (List ℕ)) (input : List ℕ) → MayTell o input → Leaves o o input
kept_input None input may = tt
kept_input (Some bytes) input may = ap Some may

pub answers : (want : Served ℕ) (word v : ℕ) (h : Heap) (left held held' : Option (List ℕ)) (input bytes : List ℕ) → want ≡ Answers word (guest h input bytes) → v ≡ word → MayTell left input → Adds held held' bytes
    → Ends want (around h left held) (around h left held') (Value v)
answers want word v h left held held' input bytes e is may adds =
    subst (λ (w : Served ℕ). Ends w (around h left held) (around h left held') (Value v)) (sym e) (is, record { heap = refl; input = kept_input left input may; out = adds })

pub faults : (want : Served ℕ) (word : ℕ) (h : Heap) (left held held' : Option (List ℕ)) (input bytes : List ℕ) → want ≡ Answers word (guest h input bytes) → 0 < length bytes → AddsFront held held' bytes
    → Ends want (around h left held) (around h left held') WriteFault
faults want word h left held held' input bytes e some adds =
    subst (λ (w : Served ℕ). Ends w (around h left held) (around h left held') WriteFault) (sym e) record { some = some; heap = refl; input = refl; out = adds }

stays : (h : Heap) (left held : Option (List ℕ)) → Stays (around h left held) (around h left held)
stays h left held = record { heap = refl; input = refl; out = Adds-none held }

pub refuses : (want : Served ℕ) (x a : ℕ) (h : Heap) (left held : Option (List ℕ)) → want ≡ Refused x → a ≡ x → Ends want (around h left held) (around h left held) (Unmapped a)
refuses want x a h left held e is = subst (λ (w : Served ℕ). Ends w (around h left held) (around h left held) (Unmapped a)) (sym e) (is, stays h left held)

pub exits : (m : Bytes) (a b c : ℕ) (h : Heap) (input : List ℕ) (left held : Option (List ℕ)) → Ends (meant m 60 a b c h input) (around h left held) (around h left held) (Exit (a % 256))
exits m a b c h input left held = subst (λ (w : Served ℕ). Ends w (around h left held) (around h left held) (Exit (a % 256))) (sym (exit_means m a b c h input)) (refl, stays h left held)

pub overflows : (m : Bytes) (a b c : ℕ) (h : Heap) (input : List ℕ) (left held : Option (List ℕ)) → Ends (meant m 0x1005 a b c h input) (around h left held) (around h left held) StackOver
overflows m a b c h input left held = subst (λ (w : Served ℕ). Ends w (around h left held) (around h left held) StackOver) (sym (over_means m a b c h input)) (stays h left held)

pub allocs : (m : Bytes) (a b c v : ℕ) (h h' : Heap) (input : List ℕ) (left held : Option (List ℕ)) → ◌≡◌ {A = ℕ × Heap} (v, h') (allocated h a) → MayTell left input
    → Ends (meant m 0x1000 a b c h input) (around h left held) (around h' left held) (Value v)
allocs m a b c v h h' input left held is may =
    subst (λ (w : Served ℕ). Ends w (around h left held) (around h' left held) (Value v)) (sym (alloc_means m a b c h input))
    (ap (λ (p : ℕ × Heap). p.0) is, record { heap = ap (λ (p : ℕ × Heap). p.1) is; input = kept_input left input may; out = Adds-none held })

pub frees : (m : Bytes) (a b c : ℕ) (h h' : Heap) (input : List ℕ) (left held : Option (List ℕ)) → freed h a ≡ Some h' → MayTell left input
    → Ends (meant m 0x1001 a b c h input) (around h left held) (around h' left held) (Value 0)
frees m a b c h h' input left held is may =
    subst (λ (w : Served ℕ). Ends w (around h left held) (around h' left held) (Value 0)) (sym (free_means m a b c h h' input is))
    (refl, record { heap = refl; input = kept_input left input may; out = Adds-none held })

pub frees_nothing : (m : Bytes) (a b c : ℕ) (h h' : Heap) (input : List ℕ) (left held : Option (List ℕ)) → freed h a ≡ None → h' ≡ h → MayTell left input
    → Ends (meant m 0x1001 a b c h input) (around h left held) (around h' left held) (Value 0xffff_ffff_ffff_ffff)
frees_nothing m a b c h h' input left held is kept may =
    subst (λ (w : Served ℕ). Ends w (around h left held) (around h' left held) (Value 0xffff_ffff_ffff_ffff)) (sym (free_refused m a b c h input is))
    (refl, record { heap = kept; input = kept_input left input may; out = Adds-none held })

pub puts : {E : Type 0} (want : Served ℕ) (h : Heap) (left held held' : Option (List ℕ)) (f f' : ℕ) (input bytes : List ℕ) (r : Result (Unit {0}) E) → want ≡ Answers 0 (guest h input bytes) → MayTell left input
    → PutsAll held held' f f' bytes r → Ends want (around h left held) (around h left held') (put_served r)
puts want h left held held' f f' input bytes (Ok done) e may put = answers want 0 0 h left held held' input bytes e refl may put.0
puts want h left held held' f f' input bytes (Err x) e may put = faults want 0 h left held held' input bytes e put.0 put.1

pub gets : (m : Bytes) (a b c x : ℕ) (h : Heap) (rest : List ℕ) (left left' held : Option (List ℕ)) → Leaves left left' rest → Ends (meant m 0x1004 a b c h (x ∷ rest)) (around h left held) (around h left' held) (Value x)
gets m a b c x h rest left left' held leaves =
    subst (λ (w : Served ℕ). Ends w (around h left held) (around h left' held) (Value x)) (sym (get_means m a b c x h rest)) (refl, record { heap = refl; input = leaves; out = Adds-none held })

pub gets_nothing : (m : Bytes) (a b c : ℕ) (h : Heap) (left left' held : Option (List ℕ)) → Leaves left left' [] → Ends (meant m 0x1004 a b c h []) (around h left held) (around h left' held) (Value 0xffff_ffff_ffff_ffff)
gets_nothing m a b c h left left' held leaves =
    subst (λ (w : Served ℕ). Ends w (around h left held) (around h left' held) (Value 0xffff_ffff_ffff_ffff)) (sym (get_nothing m a b c h)) (refl, record { heap = refl; input = leaves; out = Adds-none held })

pub read_faults : (m : Bytes) (a b c : ℕ) (h : Heap) (input : List ℕ) (left left' held : Option (List ℕ)) → left' ≡ left → Ends (meant m 0x1004 a b c h input) (around h left held) (around h left' held) ReadFault
read_faults m a b c h [] left left' held kept =
    subst (λ (w : Served ℕ). Ends w (around h left held) (around h left' held) ReadFault) (sym (get_nothing m a b c h)) record { heap = refl; input = kept; out = Adds-none held }
read_faults m a b c h (x ∷ rest) left left' held kept =
    subst (λ (w : Served ℕ). Ends w (around h left held) (around h left' held) ReadFault) (sym (get_means m a b c x h rest)) record { heap = refl; input = kept; out = Adds-none held }
