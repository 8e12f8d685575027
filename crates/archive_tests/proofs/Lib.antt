mod Images
