-- A sink behind a guard: it is handed an answer's operations only if all of them are allowed, and then the whole of it.
use Rattle.std.specs.Prelude.{◌≡◌, ◌⊎◌, ℕ, List}
use Rattle.pull_guard.specs.Guards.{AreAllowed, AreBarred}
use Rattle.pull_guard.specs.declared.guard.Bar.{Bar}
use Rattle.pull_guard.specs.declared.guard.Bar.TheVariants as bar
use Rattle.pull_guard.specs.declared.guard.Guard.{Guard}
use Rattle.review_ops.specs.Operation.{Operation}
use Rattle.site_port.specs.Sinks.{Offer, Uptake, at_time, clocks, declined, hands}
use Rattle.site_port.specs.declared.fault.SinkFault.{SinkFault}
use Rattle.site_port.specs.declared.fault.SinkFault.TheVariants as sink
use Rattle.site_port.specs.declared.guarded.Guarded.{Guarded}

-- the guard of a guarded sink, and the sink behind it
abbrev pub guard_in : {K : Type 0} → Guarded K → Guard
guard_in guarded = guarded.guard.now

abbrev pub sink_in : {K : Type 0} → Guarded K → K
sink_in guarded = guarded.sink

-- how a sink is said to decline what is barred
abbrev pub declined_by : Bar → SinkFault
declined_by bar.NotListed = sink.NotListed
declined_by bar.FarAhead = sink.FarAhead

module _ {K : Type 0} (sinks : K → Offer → Uptake → K → Type 0) where
  -- what is handed over is allowed, all of it, and handed on as it is; or it isn't, and declined, and the sink stays
  abbrev pub PassesOn : Guard → K → List Operation → ℕ → Uptake → K → Type 0
  PassesOn guard old ops latest uptake new =
      (AreAllowed guard latest ops × sinks old (hands ops) uptake new)
      ⊎ ((why : Bar) × AreBarred guard latest ops why × (uptake ≡ declined (declined_by why)) × (new ≡ old))

  -- what is handed over is judged by the greatest time that the sink says; where it doesn't say one it declines, and is
  -- handed nothing
  abbrev pub JudgesBy : Guard → Uptake → K → List Operation → Uptake → K → Type 0
  JudgesBy guard (at_time latest) old ops uptake new = PassesOn guard old ops latest uptake new
  JudgesBy guard said old ops uptake new = (uptake ≡ said) × (new ≡ old)

  -- any other offer goes to the sink as it is
  abbrev pub GuardedSinks : Guard → K → Offer → Uptake → K → Type 0
  GuardedSinks guard old (hands ops) uptake new =
      (mid : K) × (said : Uptake) × sinks old clocks said mid × JudgesBy guard said mid ops uptake new
  GuardedSinks guard old offer uptake new = sinks old offer uptake new
