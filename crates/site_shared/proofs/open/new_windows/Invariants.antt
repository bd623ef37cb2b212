use Rattle.std.proofs.Common.{◌≡◌, Some, vec_len}
use Rattle.std.specs.List.{All}
use Rattle.left_right.specs.Sides.{view}
use Rattle.site_shared.proofs.open.new_windows.Given as goal

-- so many windows were made, and the writer knows as much as before
abbrev pub invariant-loop-window : goal.invariant-loop-window
invariant-loop-window l =
    (view l.show.desk.place ≡ Some l.sight.seen)
    × (l.show.desk.shown ≡ l.initial.show.desk.shown) × (l.show.log ≡ l.initial.show.log)
    × (l.show.behind ≡ l.initial.show.behind)
    × (vec_len l.made ≡ l._window)
    × All (λ w. w ≡ record { book = l.sight.seen.book; seen = l.sight.seen.log; site = l.origin.0; start = l.origin.1 }) l.made.items
