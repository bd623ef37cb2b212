use Rattle.std.proofs.Common.{◌≡◌, ◌∙◌, [], ap, rules}
use Rattle.site_shared.specs.Accounts.{Account, RefusesAll, flushing}
use Rattle.site_shared.specs.declared.fault.DeskFault.{DeskFault}
use Rattle.site_shared.specs.declared.fault.DeskFault.TheVariants.{BadBody, ClockSpent, NoMemory}
use Rattle.site_ledger.proofs.ledger.Ledger.publish.Goals as goal

-- what isn't published stays held
still_held : (old new : Account) (fault : DeskFault) → RefusesAll old [] fault new → new ≡ old
still_held old new ClockSpent refused = absurd refused
still_held old new (BadBody cause) refused = absurd refused
still_held old new (NoMemory count) refused = refused.held ∙ search rules

pub returns-in-Ok-clause-ok : goal.returns-in-Ok-clause-ok
returns-in-Ok-clause-ok g c =
    let kept = c.in_ok-keep_held.ensures in
    let same : c.self.inside.desk ≡ c.args.self.now.account = ap (λ entries. entries.account) c.self.view_is ∙ kept.same in (
      kept.ok.0,
      ap (λ entries. entries.is_over) c.self.view_is ∙ kept.ok.1,
      c.in-Ok.ensures.ok.0 ∙ ap flushing same,
      c.in-Ok.ensures.ok.1,
    )

pub returns-in-Err-clause-err : goal.returns-in-Err-clause-err
returns-in-Err-clause-err g c =
    let kept = c.in_ok-keep_held.ensures in (
      still_held c.self.inside.desk c.flush.new.self c.in-Err.field-0 c.in-Err.ensures.err
          ∙ ap (λ entries. entries.account) c.self.view_is ∙ kept.same,
      ap (λ entries. entries.is_over) c.self.view_is ∙ kept.ok.1,
    )
