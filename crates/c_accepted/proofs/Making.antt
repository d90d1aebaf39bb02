-- What linked functions of accepted sources name was made.
use Rattle.std.proofs.Common.{◌≡◌, inl, inr, ◌⊎◌, ℕ, ◌+◌, true, refl, sym, ◌∙◌, subst, List, [], ◌∷◌, ◌++◌, arith}
use Rattle.std.specs.Prelude.{slice_index, slice_index_or}
use Rattle.mx_base.specs.declared.limits.Bounds.{Bounds}
use Rattle.mx_base.specs.declared.settings.Flags.{Flags}
use Rattle.c_tree.specs.declared.tree.Tree.{Tree}
use Rattle.c_check.specs.Accepted.{after}
use Rattle.c_check.specs.Standing.{structs_seen}
use Rattle.bounds_plan.specs.steps.Compiled.{sorts_of}
use Rattle.bounds_plan.specs.meaning.Functions.{FunctionOfC, Linked}
use Rattle.bounds_plan.specs.laws.Roots.{NamesStatement, ObjectMade, IsFramed, ParametersFramed, NamesWhatIsMade, AllMade}
use Rattle.bounds_plan.specs.elaboration.Source.{SourceLayout, Meanings}
use Rattle.bounds_plan.specs.elaboration.Functions.{Defined, elaborated}
use Rattle.bounds_plan.specs.elaboration.Laws.{IsFunction, IsLiteral, NamesItsOwn, AllNameTheirOwn}
use Rattle.c_accepted.specs.Alike.{meanings_of}
use Rattle.c_accepted.specs.Frames.{AllFramed}
use Rattle.c_accepted.specs.Linked.{Source, defined_by, IsOneOf, IsLinked}
use Rattle.c_accepted.specs.Literals.{HasSize, IsWholeLiteral, IsWholeText}
use Rattle.c_accepted.specs.Made.{GlobalsMade, LiteralsMade, IsMadeFor, IsMade}
use Rattle.c_accepted.specs.SourceLiterals.{literal_sizes, AllNameLiterals}
use Rattle.c_accepted.specs.Wholes.{known_behind, IsWhole, IsWholeGlobal, NamesWholeGlobals, AllNameWholeGlobals}
use Rattle.c_accepted.proofs.Both.{both_statement}
use Rattle.c_accepted.proofs.LiteralItems.{literals_whole}
use Rattle.c_accepted.proofs.Elaborating.{parameters_framed, name_whole_globals}

-- ---- a function among those of a source

abbrev NamesTextsWhole : (ℕ → ℕ → Type 0) → SourceLayout → FunctionOfC → Type 0
NamesTextsWhole so layout f = NamesStatement (IsWholeText so layout) (λ offset size. Unit {0}) (λ x. Unit {0}) f.body

-- the literals of a source, by number and size
abbrev Sized : Source → ℕ → ℕ → Type 0
Sized source = HasSize 0 (literal_sizes source.tree (meanings_of (after source.tree).notes) source.layout source.flags)

whole_at : (tree : Tree) (layout : SourceLayout) (before more : List Defined) (d : Defined) → AllNameWholeGlobals tree layout (before ++ (d ∷ more)) → NamesWholeGlobals tree layout d
whole_at tree layout [] more d h = h.0
whole_at tree layout (x ∷ before) more d h = whole_at tree layout before more d h.1

literals_at : (so : ℕ → ℕ → Type 0) (layout : SourceLayout) (before more : List Defined) (d : Defined) → AllNameLiterals so layout (before ++ (d ∷ more)) → NamesTextsWhole so layout d.function
literals_at so layout [] more d h = h.0
literals_at so layout (x ∷ before) more d h = literals_at so layout before more d h.1

own_at : (layout : SourceLayout) (before more : List Defined) (d : Defined) → AllNameTheirOwn layout (before ++ (d ∷ more)) → NamesItsOwn layout d.function
own_at layout [] more d h = h.0
own_at layout (x ∷ before) more d h = own_at layout before more d h.1

framed_at : (before more : List Defined) (d : Defined) → AllFramed (before ++ (d ∷ more)) → ParametersFramed d.function.variables d.function.parameters
framed_at [] more d h = h.0
framed_at (x ∷ before) more d h = framed_at before more d h.1

-- ---- what it names

global_made : (start : List Bounds) (source : Source) (l : Linked) → GlobalsMade start source l → (d : Defined) (n : NamesWholeGlobals source.tree source.layout d) (symbol offset size : ℕ)
    → IsWholeGlobal (known_behind n.before).variables (structs_seen (known_behind n.before).structs) source.layout symbol offset size → ObjectMade start (l.located symbol) offset size
global_made start source l made d n symbol offset size g =
    let there = made n.before n.others n.is g.number g.variable.kind record { variable = g.variable; known = g.known; has = refl } in
    subst (λ s. ObjectMade start (l.located s) offset size) (sym g.at) (subst (λ o. ObjectMade start (l.located (slice_index_or source.layout.globals g.number 0)) o size) (sym g.begins)
    (subst (λ m. ObjectMade start (l.located (slice_index_or source.layout.globals g.number 0)) 0 m) (sym g.has) there))

abbrev Others : List Bounds → Source → Linked → (symbol offset size : ℕ) → Type 0
Others start source l symbol offset size = (IsFunction source.layout symbol offset size ⊎ IsLiteral source.layout symbol offset) → ObjectMade start (l.located symbol) offset size

literal_made : (start : List Bounds) (source : Source) (l : Linked) → LiteralsMade start source l → (symbol offset size : ℕ) → IsWholeLiteral (Sized source) source.layout symbol offset size → ObjectMade start (l.located symbol) offset size
literal_made start source l made symbol offset size w =
    let number : w.number ≡ w.has.place = (let at = w.has.at in omega (arith, at)) in let there = made w.has.place size w.has.known in
    subst (λ s. ObjectMade start (l.located s) offset size) (sym w.at) (subst (λ o. ObjectMade start (l.located source.layout.texts) o size) (sym w.begins)
    (subst (λ n. ObjectMade start (l.located source.layout.texts) (slice_index source.layout.literals n) size) (sym number) there))

others_made : (start : List Bounds) (source : Source) (l : Linked) → IsMadeFor start source l → (symbol offset size : ℕ) → IsWholeText (Sized source) source.layout symbol offset size
    → (IsFunction source.layout symbol offset size → ObjectMade start (l.located symbol) offset size) → Others start source l symbol offset size
others_made start source l made symbol offset size text named (inl f) = named f
others_made start source l made symbol offset size (inl g) named (inr literal) = absurd (made.apart g.number (sym g.at ∙ literal.at))
others_made start source l made symbol offset size (inr (inl f)) named (inr literal) = named f
others_made start source l made symbol offset size (inr (inr w)) named (inr literal) = literal_made start source l made.literals symbol offset size w

object_made : (start : List Bounds) (source : Source) (l : Linked) → GlobalsMade start source l → (d : Defined) (n : NamesWholeGlobals source.tree source.layout d) (symbol offset size : ℕ)
    → IsWhole (known_behind n.before).variables (structs_seen (known_behind n.before).structs) source.layout symbol offset size → Others start source l symbol offset size → ObjectMade start (l.located symbol) offset size
object_made start source l made d n symbol offset size (inl g) others = global_made start source l made d n symbol offset size g
object_made start source l made d n symbol offset size (inr x) others = others x

abbrev BodyMade : List Bounds → Linked → FunctionOfC → Type 0
BodyMade start l f = NamesStatement (λ symbol offset size. ObjectMade start (l.located symbol) offset size) (IsFramed f.variables) (λ x. sorts_of f (x + 1) ≡ true) f.body

body_made : (start : List Bounds) (source : Source) (l : Linked) → IsMadeFor start source l → (d : Defined) → l.fun ≡ d.function → NamesWholeGlobals source.tree source.layout d → NamesTextsWhole (Sized source) source.layout d.function → NamesItsOwn source.layout d.function → BodyMade start l d.function
body_made start source l made d is whole texts own =
    let functions = subst (λ (f : FunctionOfC). NamesStatement (λ symbol offset size. IsFunction source.layout symbol offset size → ObjectMade start (l.located symbol) offset size) (λ offset size. Unit {0}) (λ x. Unit {0}) f.body) is made.functions in
    let others = both_statement _ _ (Others start source l) _ _ (λ offset size. Unit {0}) _ _ (λ x. Unit {0}) (others_made start source l made) (λ offset size h k. tt) (λ x h k. tt) d.function.body texts functions in
    let objects = both_statement _ _ (λ symbol offset size. ObjectMade start (l.located symbol) offset size) _ _ (λ offset size. Unit {0}) _ _ (λ x. Unit {0}) (object_made start source l made.globals d whole) (λ offset size h k. tt) (λ x h k. tt) d.function.body whole.body others in
    both_statement _ _ (λ symbol offset size. ObjectMade start (l.located symbol) offset size) _ _ (IsFramed d.function.variables) _ _ (λ x. sorts_of d.function (x + 1) ≡ true) (λ symbol offset size h k. h) (λ offset size h k. k) (λ x h k. k) d.function.body objects own.body

-- what is known of all sources
abbrev pub NameTheirOwn : Type 0
NameTheirOwn = (layout : SourceLayout) (tree : Tree) (meanings : Meanings) (flags : Flags) → AllNameTheirOwn layout (elaborated tree meanings layout flags)

function_made : NameTheirOwn → (start : List Bounds) (source : Source) (l : Linked) → IsMadeFor start source l → IsOneOf (defined_by source) l.fun → NamesWhatIsMade start l
function_made owns start source l made one =
    let d = one.d in let s = one.stands in let w = meanings_of (after source.tree).notes in
    let whole = whole_at source.tree source.layout s.before s.after d (subst (AllNameWholeGlobals source.tree source.layout) s.is (name_whole_globals source.tree source.room source.formed source.few source.accepted source.layout source.flags)) in
    let texts = literals_at (Sized source) source.layout s.before s.after d (subst (AllNameLiterals (Sized source) source.layout) s.is (literals_whole source.tree w source.layout source.flags)) in
    let own = own_at source.layout s.before s.after d (subst (AllNameTheirOwn source.layout) s.is (owns source.layout source.tree w source.flags)) in
    let framed = framed_at s.before s.after d (subst AllFramed s.is (parameters_framed source.tree source.room source.formed source.few source.accepted source.layout source.flags made.planned)) in record {
      parameters = subst (λ (f : FunctionOfC). ParametersFramed f.variables f.parameters) (sym one.is) framed;
      body = subst (BodyMade start l) (sym one.is) (body_made start source l made d one.is whole texts own);
    }

pub linked_made : NameTheirOwn → (start : List Bounds) (takes_outside : ℕ → ℕ) (program : ℕ → Linked) (linked : IsLinked takes_outside program) → IsMade start takes_outside program linked → AllMade start program
linked_made owns start takes_outside program linked made f = function_made owns start (linked f).source (program f) (made f) (linked f).one
