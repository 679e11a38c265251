use Rattle.rd_low_tests.proofs.paint.is_painted.Goals as goal

pub are_right-requires : goal.are_right-requires
are_right-requires g c = c.scene-list.ensures
