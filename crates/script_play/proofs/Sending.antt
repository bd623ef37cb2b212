-- What one site sends another, which is there.
use Rattle.std.proofs.Common.{◌≡◌, ◌⊎◌, ℕ, List, Option, None, Some, Global, inl, subst}
use Rattle.std.specs.Prelude.{MatchOption, option_map}
use Rattle.review_ops.specs.Operation.{Operation}
use Rattle.replica_core.specs.Front.{Reaches, IsFront}
use Rattle.world_core.specs.declared.event.Event.TheVariants.{Send}
use Rattle.world_core.specs.Numbered.{numbered}
use Rattle.world_core.specs.World.{SiteState, WorldState}
use Rattle.script_text.specs.declared.script.Step.TheVariants.{SendTo}
use Rattle.script_play.specs.Playing.{PlaysEvent, PlaysSendTo, PlaysStep}

pub at_site : (P : List Operation → Type 0) (Q : Type 0) (found : Option SiteState) (journal : List Operation)
    → Some journal ≡ option_map (λ (at : SiteState). at.journal) found → P journal
    → MatchOption found Q (λ at. P at.journal)
at_site P Q None journal is p = cc
at_site P Q (Some at) journal is p = let same : journal ≡ at.journal = cc in subst P same p

pub sends : (old new : WorldState) (site receiver : ℕ) (journal : List Operation) (front : Reaches) (text : List ℕ)
    → Some journal ≡ option_map (λ (at : SiteState). at.journal) (numbered old.sites receiver) → IsFront journal front
    → PlaysEvent old (Send site front) text new → PlaysStep old (SendTo site receiver) text new
sends old new site receiver journal front text there is plays =
    at_site (λ j. PlaysSendTo site j old text new) _ (numbered old.sites receiver) journal there
    (inl (front, is, plays))
