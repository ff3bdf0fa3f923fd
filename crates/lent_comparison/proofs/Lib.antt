mod ReadingLaws
