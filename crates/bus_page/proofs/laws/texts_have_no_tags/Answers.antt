use Rattle.bus_page.proofs.TagLemmas as laws
use Rattle.bus_page.proofs.laws.texts_have_no_tags.Goals as goal

pub returns : goal.returns
returns c = laws.texts_have_no_tags
