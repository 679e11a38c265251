use Rattle.std.proofs.Common.{◌∙◌, arith}
use Rattle.rd_tree.proofs.Nodes.Shared.{page_calmed, page_renewed}
use Rattle.rd_tree.proofs.shared.renew_page.Goals as goal

pub returns-then-word-eq0 : goal.returns-then-word-eq0
returns-then-word-eq0 c =
    let renewed = page_renewed c.args.words.now c.args.shared.now c.put_odd.new.shared c.args.page c.args.word c.odd_in-odd.result c.requires.shared
    c.requires.word c.requires.odd c.put_odd.ensures c.odd_in-odd.ensures in
    page_calmed c.args.words.now c.put_odd.new.shared c.calm_down.new.shared c.args.page renewed
    (c.put_odd.ensures.word c.args.page ∙ (c.requires.word ∙ grind arith)) (c.put_odd.ensures.here ∙ grind arith) c.calm_down.ensures

pub returns-else-odd-eq0 : goal.returns-else-odd-eq0
returns-else-odd-eq0 c = page_renewed c.args.words.now c.args.shared.now c.put_odd.new.shared c.args.page c.args.word c.odd_in-odd.result c.requires.shared
    c.requires.word c.requires.odd c.put_odd.ensures c.odd_in-odd.ensures
