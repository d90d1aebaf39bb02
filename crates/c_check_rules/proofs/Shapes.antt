-- Facts on types as layers around a core.
use Rattle.std.proofs.Common.{◌≡◌, suc, refl, ◌∙◌, ap, Bool, true, false, ◌&&◌, List, [], ◌∷◌, length}
use Rattle.c_types.specs.Types.{CType}
use Rattle.c_check_rules.specs.declared.kinds.Core.{Core}
use Rattle.c_check_rules.specs.declared.kinds.Core.TheVariants as c
use Rattle.c_check_rules.specs.declared.kinds.Layer.{Layer}
use Rattle.c_check_rules.specs.declared.kinds.Layer.TheVariants as l
use Rattle.c_check_rules.specs.Kinds.{core_kind, layered, shaped, core_of, same_kinds, same_layer}

pub core_shaped : (core : Core) (layers : List Layer) → core_of (shaped core layers) ≡ core
core_shaped c.Void [] = refl
core_shaped (c.Int kind) [] = refl
core_shaped (c.Struct number) [] = refl
core_shaped core (l.Pointer ∷ more) = core_shaped core more
core_shaped core (l.Array count ∷ more) = core_shaped core more

pub same_layered : (a b : Layer) (s t : CType) → same_kinds (layered a s) (layered b t) ≡ (same_layer a b && same_kinds s t)
same_layered l.Pointer l.Pointer s t = refl
same_layered l.Pointer (l.Array m) s t = refl
same_layered (l.Array n) l.Pointer s t = refl
same_layered (l.Array n) (l.Array m) s t = refl

core_and_layer : (x : Core) (b : Layer) (t : CType) → same_kinds (core_kind x) (layered b t) ≡ false
core_and_layer c.Void l.Pointer t = refl
core_and_layer c.Void (l.Array m) t = refl
core_and_layer (c.Int kind) l.Pointer t = refl
core_and_layer (c.Int kind) (l.Array m) t = refl
core_and_layer (c.Struct number) l.Pointer t = refl
core_and_layer (c.Struct number) (l.Array m) t = refl

layer_and_core : (a : Layer) (s : CType) (y : Core) → same_kinds (layered a s) (core_kind y) ≡ false
layer_and_core l.Pointer s c.Void = refl
layer_and_core l.Pointer s (c.Int kind) = refl
layer_and_core l.Pointer s (c.Struct number) = refl
layer_and_core (l.Array n) s c.Void = refl
layer_and_core (l.Array n) s (c.Int kind) = refl
layer_and_core (l.Array n) s (c.Struct number) = refl

and_false : (t : Bool) → (t && false) ≡ false
and_false true = refl
and_false false = refl

pub same_lengths : (x y : Core) (ls ms : List Layer) → (length ls ≡ length ms → ⊥) → same_kinds (shaped x ls) (shaped y ms) ≡ false
same_lengths x y [] [] h = absurd (h refl)
same_lengths x y [] (m ∷ ms) h = core_and_layer x m (shaped y ms)
same_lengths x y (l ∷ ls) [] h = layer_and_core l (shaped x ls) y
same_lengths x y (l ∷ ls) (m ∷ ms) h = same_layered l m (shaped x ls) (shaped y ms)
    ∙ (ap (λ t. same_layer l m && t) (same_lengths x y ls ms (λ e. h (ap suc e))) ∙ and_false (same_layer l m))
