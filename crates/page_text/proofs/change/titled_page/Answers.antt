use Rattle.page_text.specs.Titles.{item_title}
use Rattle.page_text.proofs.WaitingSteps.{titled_whole}
use Rattle.page_text.proofs.change.titled_page.Goals as goal

pub returns : goal.returns
returns c =
    titled_whole (item_title c.args.state.now c.args.item) c.args.main.now c.begin_titled-page.result c.append.new.self _
    c.begin_titled-page.ensures c.append.ensures c.in_ok-text.ensures
