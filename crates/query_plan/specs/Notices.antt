-- What an operator reads of a query that failed.
use Rattle.std.specs.Prelude.{ℕ, List, ◌++◌, codes, decimal}
use Rattle.query_plan.specs.declared.notice.Notice.{Notice}
use Rattle.query_plan.specs.declared.notice.Notice.TheVariants.{Halved, Repeated, Slow, Failed, Paused}

abbrev pub notice_text : Notice → List ℕ
notice_text (Halved count) =
    codes "feed: a query of " ++ decimal count ++ codes " changes failed, and half as many are queried next\n"
notice_text (Repeated count) =
    codes "feed: a query of " ++ decimal count ++ codes " changes failed, and is asked again\n"
notice_text (Slow change) =
    codes "feed: the query of change " ++ decimal change ++ codes " took too long, and isn't asked again for an hour\n"
notice_text (Failed change) =
    codes "feed: the query of change " ++ decimal change
    ++ codes " failed, and isn't asked again before the next query of all changes\n"
notice_text (Paused seconds) =
    codes "feed: the query of all changes failed, and is asked again in " ++ decimal seconds ++ codes " seconds\n"
