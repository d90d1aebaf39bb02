mod StatementForms
mod EffectLemmas
mod WalkLemmas
