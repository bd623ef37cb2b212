-- The options that a site runs with, from its setup.
use Rattle.std.specs.Prelude.{◌≡◌, ◌*◌, ℕ, Option, None, Some, if◌then◌else◌, nat_lt, option_map}
use Rattle.std.specs.Duration.{as_nanos}
use Rattle.site_serve.specs.declared.site_context.SiteOptions.{SiteOptions}
use Rattle.site_serve.specs.declared.setup.Setup.{Setup}

-- for how many nanoseconds a session may send no whole line, given the milliseconds of the setup; no limit if these are
-- 0
abbrev pub idle_nanos : ℕ → Option ℕ
idle_nanos milliseconds = if nat_lt 0 milliseconds then Some (milliseconds * 1000000) else None

-- each option is that of the setup; the guard has the number of the site and the sites that it lists
abbrev pub RunsWith : Setup → SiteOptions → Type 0
RunsWith setup options =
    (options.guard ≡ record { own = setup.site; sites = setup.sites })
    × (options.start ≡ setup.start) × (options.keys ≡ setup.keys) × (options.peers ≡ setup.peers)
    × (options.prints ≡ setup.prints) × (options.reloads ≡ setup.reloads)
    × (as_nanos options.pause ≡ setup.pause_ms * 1000000)
    × (option_map as_nanos options.patience.idle ≡ idle_nanos setup.idle_ms)
