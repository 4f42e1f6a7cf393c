mod AnyLaws
