use Rattle.std.proofs.Common.{refl}
use Rattle.serde_json.specs.View.{members_view}
use Rattle.op_text.specs.declared.field.Field.TheVariants.{Seq, Site, Start, Time}
use Rattle.op_text.specs.Shape.{found_at}
use Rattle.op_text.proofs.Fits.{required64, required16, required32}
use Rattle.op_text.proofs.read.stamp_of.Goals as goal

pub number64-time-requires : goal.number64-time-requires
number64-time-requires c =
    required64 Time 0 (λ d. refl) (found_at Time (members_view c.args.members.now.entries)) (c.requires.1.fields Time)

pub number16-site-requires : goal.number16-site-requires
number16-site-requires c =
    required16 Site (λ d. refl) (found_at Site (members_view c.args.members.now.entries)) (c.requires.1.fields Site)

pub number32-start-requires : goal.number32-start-requires
number32-start-requires c =
    required32 Start (λ d. refl) (found_at Start (members_view c.args.members.now.entries)) (c.requires.1.fields Start)

pub number64-seq-requires : goal.number64-seq-requires
number64-seq-requires c =
    required64 Seq 1 (λ d. refl) (found_at Seq (members_view c.args.members.now.entries)) (c.requires.1.fields Seq)
