use Rattle.pt_layout.proofs.survey.survey_table.Goals as goal

pub survey_labelled-requires-clause-head : goal.survey_labelled-requires-clause-head
survey_labelled-requires-clause-head g c = λ tells. rw c.new-cache.ensures.disk (c.requires.head tells)

pub survey_labelled-requires-clause-plain : goal.survey_labelled-requires-clause-plain
survey_labelled-requires-clause-plain g c = λ tells. rw c.new-cache.ensures.disk (c.requires.plain tells)

pub survey_labelled-requires-clause-found : goal.survey_labelled-requires-clause-found
survey_labelled-requires-clause-found g c = λ tells. rw c.new-cache.ensures.disk (c.requires.found tells)

pub survey_labelled-requires-clause-traced : goal.survey_labelled-requires-clause-traced
survey_labelled-requires-clause-traced g c = λ tells. rw c.new-cache.ensures.disk (c.requires.traced tells)
