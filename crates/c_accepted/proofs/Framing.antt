-- The parameters of a planned function stand in its frame, if they aren't private.
use Rattle.std.proofs.Common.{◌≡◌, ℕ, suc, ◌+◌, ◌≤◌, refl, sym, ap, ◌∙◌, subst, true, false, List, [], ◌∷◌, ◌++◌, length, length-append, append_assoc, arith}
use Rattle.std.specs.Prelude.{slice_index_or, take, drop}
use Rattle.mx_base.specs.declared.numbers.IntKind.{IntKind}
use Rattle.mx_base.specs.declared.numbers.IntKind.TheVariants.{I8, U8, I16, U16, I32, U32, I64, U64}
use Rattle.mx_base.specs.Numbers.{size_of}
use Rattle.c_types.specs.Types.{CType, Void, Int, Pointer, Array, Struct, StructType}
use Rattle.c_types.specs.Layouts.{width}
use Rattle.c_check_rules.specs.declared.names.StructInfo.{StructInfo}
use Rattle.c_check_statements.specs.declared.state.Body.{Body}
use Rattle.c_check_statements.specs.declared.state.BodyVariable.{BodyVariable}
use Rattle.c_check_statements.specs.Frames.{variables_from}
use Rattle.c_check.specs.Standing.{structs_seen}
use Rattle.bounds_plan.specs.meaning.Functions.{Parameter, Private as PrivateParameter, Framed, Framed_variable}
use Rattle.bounds_plan.specs.meaning.Core.{Statement}
use Rattle.bounds_plan.specs.laws.Roots.{Begins, StandsIn, ParametersFramed}
use Rattle.bounds_plan.specs.elaboration.Types.{sort_of}
use Rattle.bounds_plan.specs.elaboration.Source.{Stand, Private, Frame, FrameLayout, SourceLayout, Reached, Around}
use Rattle.bounds_plan.specs.elaboration.Places.{private_values_of, private_values}
use Rattle.bounds_plan.specs.elaboration.Functions.{Defined, no_frame, parameters_from, framed_variables, next_types, function_with}
use Rattle.c_accepted.specs.Frames.{AllStand, AllPlanned, AllFramed, types_of, IsOfBody, AreOfBodies}
use Rattle.c_accepted.proofs.Heads.{AllScalar}

-- ---- one variable more in the frame

further : (x v : Framed_variable) (vs : List Framed_variable) → StandsIn x vs → StandsIn x (v ∷ vs)
further x v vs h = record { before = v ∷ h.before; after = h.after; is = ap (λ l. v ∷ l) h.is }

framed_further : (v : Framed_variable) (vs : List Framed_variable) (ps : List Parameter) → ParametersFramed vs ps → ParametersFramed (v ∷ vs) ps
framed_further v vs [] h = tt
framed_further v vs (PrivateParameter x kind ∷ rest) h = framed_further v vs rest h
framed_further v vs (Framed offset kind ∷ rest) h = (further _ v vs h.0, framed_further v vs rest h.1)

in_front : (x : Framed_variable) (vs : List Framed_variable) → StandsIn x (x ∷ vs)
in_front x vs = record { before = []; after = vs; is = refl }

same_width : (kind : IntKind) → width kind ≡ size_of kind
same_width I8 = refl
same_width U8 = refl
same_width I16 = refl
same_width U16 = refl
same_width I32 = refl
same_width U32 = refl
same_width I64 = refl
same_width U64 = refl

-- ---- parameters

pub params_framed : (structs : List StructType) (ts more : List CType) (ss : List Stand) (x : ℕ) → AllScalar ts → length ts ≤ length ss → ParametersFramed (framed_variables structs (ts ++ more) ss) (parameters_from x ts ss)
params_framed structs [] more ss x scalar le = tt
params_framed structs (t ∷ ts) more [] x scalar le = absurd (omega arith)
params_framed structs (Void ∷ ts) more (s ∷ ss) x scalar le = absurd (not_so scalar.0)
  where
    not_so : false ≡ true → ⊥
    not_so h = cc
params_framed structs (Array t n ∷ ts) more (s ∷ ss) x scalar le = absurd (not_so scalar.0)
  where
    not_so : false ≡ true → ⊥
    not_so h = cc
params_framed structs (Struct n ∷ ts) more (s ∷ ss) x scalar le = absurd (not_so scalar.0)
  where
    not_so : false ≡ true → ⊥
    not_so h = cc
params_framed structs (Int kind ∷ ts) more (Private ∷ ss) x scalar le = params_framed structs ts more ss (x + length (private_values_of (sort_of (Int kind)) Private)) scalar.1 (omega arith)
params_framed structs (Pointer t ∷ ts) more (Private ∷ ss) x scalar le = params_framed structs ts more ss (x + length (private_values_of (sort_of (Pointer t)) Private)) scalar.1 (omega arith)
params_framed structs (Int kind ∷ ts) more (Frame offset ∷ ss) x scalar le =
    let rest = params_framed structs ts more ss (x + length (private_values_of (sort_of (Int kind)) (Frame offset))) scalar.1 (omega arith) in (
      subst (λ n. StandsIn record { offset = offset; size = n } (record { offset = offset; size = width kind } ∷ framed_variables structs (ts ++ more) ss)) (same_width kind) (in_front record { offset = offset; size = width kind } (framed_variables structs (ts ++ more) ss)),
      framed_further record { offset = offset; size = width kind } (framed_variables structs (ts ++ more) ss) (parameters_from (x + length (private_values_of (sort_of (Int kind)) (Frame offset))) ts ss) rest,
    )
params_framed structs (Pointer t ∷ ts) more (Frame offset ∷ ss) x scalar le =
    let rest = params_framed structs ts more ss (x + length (private_values_of (sort_of (Pointer t)) (Frame offset))) scalar.1 (omega arith) in (
      in_front record { offset = offset; size = 8 } (framed_variables structs (ts ++ more) ss),
      framed_further record { offset = offset; size = 8 } (framed_variables structs (ts ++ more) ss) (parameters_from (x + length (private_values_of (sort_of (Pointer t)) (Frame offset))) ts ss) rest,
    )

-- ---- frames that are planned

stand_as_many : (vs : List BodyVariable) (ss : List Stand) → AllStand vs ss → length vs ≡ length ss
stand_as_many [] [] h = refl
stand_as_many [] (s ∷ ss) h = absurd h
stand_as_many (v ∷ vs) [] h = absurd h
stand_as_many (v ∷ vs) (s ∷ ss) h = ap suc (stand_as_many vs ss h.1)

planned_at : (before : List Body) (b : Body) (more : List Body) (frames : List FrameLayout) → AllPlanned (before ++ (b ∷ more)) frames → AllStand b.variables (slice_index_or frames (length before) no_frame).stands
planned_at [] b more [] h = absurd h
planned_at [] b more (f ∷ frames) h = h.0
planned_at (x ∷ before) b more [] h = absurd h
planned_at (x ∷ before) b more (f ∷ frames) h = planned_at before b more frames h.1

as_many_variables : (kinds : List CType) (number : ℕ) (taken : List ℕ) → length (variables_from number taken kinds) ≡ length kinds
as_many_variables [] number taken = refl
as_many_variables (t ∷ more) number taken = ap suc (as_many_variables more (number + 1) taken)

-- the frame of a body whose variables begin with these parameters has room for them
pub frame_has_room : (before : List Body) (b : Body) (more all : List Body) (frames : List FrameLayout) (params others made : List CType) (taken : List ℕ) → all ≡ (before ++ (b ∷ [])) ++ more → b.variables ≡ variables_from 0 taken made → made ≡ params ++ others
    → AllPlanned all frames → length params ≤ length (slice_index_or frames (length before) no_frame).stands
frame_has_room before b more all frames params others made taken e v m h =
    let frame = slice_index_or frames (length before) no_frame in
    let stand = planned_at before b more frames (subst (λ l. AllPlanned l frames) (e ∙ joined before) h) in
    let many = stand_as_many b.variables frame.stands stand in let variables = ap length v ∙ as_many_variables made 0 taken in
    omega (arith, many, variables, ap length m, length-append params others)
  where
    joined : (xs : List Body) → (xs ++ (b ∷ [])) ++ more ≡ xs ++ (b ∷ more)
    joined [] = refl
    joined (x ∷ xs) = ap (λ l. x ∷ l) (joined xs)

-- ---- functions and their bodies

types_kept : (kinds : List CType) (number : ℕ) (taken : List ℕ) → types_of (variables_from number taken kinds) ≡ kinds
types_kept [] number taken = refl
types_kept (t ∷ more) number taken = ap (λ ts. t ∷ ts) (types_kept more (number + 1) taken)

drop_front : (xs ys : List CType) → drop (length xs) (xs ++ ys) ≡ ys
drop_front [] ys = refl
drop_front (x ∷ xs) ys = drop_front xs ys

take_front : (xs ys : List CType) → take (length xs) (xs ++ ys) ≡ xs
take_front [] ys = refl
take_front (x ∷ xs) ys = ap (λ l. x ∷ l) (take_front xs ys)

next_is : (xs types more whole : List CType) (n count : ℕ) → whole ≡ (xs ++ types) ++ more → n ≡ length xs → length types ≡ count → take count (drop n whole) ≡ types
next_is xs types more whole n count e p q = (λ i. take (sym q i) (drop (p i) ((e ∙ append_assoc xs types more) i))) ∙ (ap (take (length types)) (drop_front xs (types ++ more)) ∙ take_front types more)

-- the types of the next declarations are those that a part declares
pub next_types_are : (around : Around) (r : Reached) (xs types whole : List CType) (count : ℕ) → Begins whole around.meanings.declared → whole ≡ xs ++ types → r.declaration ≡ length xs → length types ≡ count → next_types around r count ≡ types
next_types_are around r xs types whole count h e p q = next_is xs types h.more around.meanings.declared r.declaration count (h.is ∙ ap (λ l. l ++ h.more) e) p q

of_more : (structs : List StructInfo) (layout : SourceLayout) (at : ℕ) (ds : List Defined) (bs : List Body) (d : Defined) (b : Body) (n : ℕ) → n ≡ at + length bs → AreOfBodies structs layout at ds bs → IsOfBody structs (slice_index_or layout.frames n no_frame) b d
    → AreOfBodies structs layout at (ds ++ (d ∷ [])) (bs ++ (b ∷ []))
of_more structs layout at [] [] d b n e h k = let here : n ≡ at = omega arith in (subst (λ m. IsOfBody structs (slice_index_or layout.frames m no_frame) b d) here k, tt)
of_more structs layout at [] (c ∷ bs) d b n e h k = absurd h
of_more structs layout at (f ∷ ds) [] d b n e h k = absurd h
of_more structs layout at (f ∷ ds) (c ∷ bs) d b n e h k = (h.0, of_more structs layout (at + 1) ds bs d b n (omega arith) h.1 k)

-- a function with these parameters and locals, whose body is noted with them
pub one_of_body : (structs known : List StructInfo) (layout : SourceLayout) (ds : List Defined) (old bs : List Body) (seen : List StructType) (number n : ℕ) (params locals types made : List CType) (taken : List ℕ) (s : Statement) → Begins known structs → seen ≡ structs_seen known → locals ≡ types → made ≡ params ++ types → n ≡ length old → bs ≡ old
    → AreOfBodies structs layout 0 ds old
    → AreOfBodies structs layout 0 (ds ++ (record { number = number; function = function_with seen params (params ++ locals) (slice_index_or layout.frames n no_frame) s } ∷ [])) (bs ++ (record { number = number; variables = variables_from 0 taken made } ∷ []))
one_of_body structs known layout ds old bs seen number n params locals types made taken s begins same e m at kept h =
    let frame = slice_index_or layout.frames n no_frame in let b : Body = record { number = number; variables = variables_from 0 taken made } in
    let all : params ++ locals ≡ types_of b.variables = ap (λ l. params ++ l) e ∙ (sym m ∙ sym (types_kept made 0 taken)) in
    subst (λ l. AreOfBodies structs layout 0 (ds ++ (record { number = number; function = function_with seen params (params ++ locals) frame s } ∷ [])) (l ++ (b ∷ []))) (sym kept)
    (of_more structs layout 0 ds old _ b n (omega (arith, at)) h record {
      number = refl;
      known = known;
      earlier = begins;
      privates = ap (λ ts. private_values ts frame.stands) all;
      variables = (λ i. framed_variables (same i) (all i) frame.stands);
      size = refl;
    })

pub framed_more : (fs : List Defined) (d : Defined) → AllFramed fs → ParametersFramed d.function.variables d.function.parameters → AllFramed (fs ++ (d ∷ []))
framed_more [] d h k = (k, tt)
framed_more (f ∷ fs) d h k = (h.0, framed_more fs d h.1 k)
