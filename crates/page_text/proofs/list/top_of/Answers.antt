use Rattle.std.proofs.Common.{refl}
use Rattle.page_text.specs.Rowless.{begun_in}
use Rattle.std.specs.Prelude.{codes}
use Rattle.page_text.proofs.RowlessSteps.{begun_then, html_added, rowless_then}
use Rattle.page_text.proofs.list.top_of.Goals as goal

pub returns : goal.returns
unfolding begun_in
returns c =
    let begins = c.begin-page.ensures.rowless refl in
    let heading = html_added (codes "<h1>Items</h1>\n") c.begin-page.result c.add.new.self refl c.add.ensures in
    let form = rowless_then c.begin-page.result c.add.new.self c.add_form.new.page heading c.add_form.ensures in
    let counts = rowless_then c.begin-page.result c.add_form.new.page c.add_counts.new.page form c.add_counts.ensures in
    let ago = rowless_then c.begin-page.result c.add_counts.new.page c.add_ago.new.page counts c.add_ago.ensures in
    let news = rowless_then c.begin-page.result c.add_ago.new.page c.add_news.new.page ago c.add_news.ensures in
    let heard = rowless_then c.begin-page.result c.add_news.new.page c.add_heard.new.page news c.add_heard.ensures in
    let peers = rowless_then c.begin-page.result c.add_heard.new.page c.add_peers.new.page heard c.add_peers.ensures in
    let reasons = rowless_then c.begin-page.result c.add_peers.new.page c.add_reasons.new.page peers c.add_reasons.ensures in
    begun_then c.begin-page.result c.add_reasons.new.page begins reasons

pub add_ago-requires : goal.add_ago-requires
unfolding begun_in
add_ago-requires c = refl
