use Rattle.page_text.proofs.Pages.{all_are_the_report, pages_in_turn}
use Rattle.page_text.proofs.laws.pages_are_the_report.Goals as goal

pub returns-clause-pages : goal.returns-clause-pages
returns-clause-pages c = pages_in_turn

pub returns-clause-report : goal.returns-clause-report
returns-clause-report c = all_are_the_report
